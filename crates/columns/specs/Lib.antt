pub mod ExtremeSteps
pub mod Judging
