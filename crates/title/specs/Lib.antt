pub mod Title
pub mod ZeroSteps
