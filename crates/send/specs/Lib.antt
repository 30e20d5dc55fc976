pub mod SendSteps
pub mod AnswerSteps
pub mod BlockSteps
pub mod WholeSteps
