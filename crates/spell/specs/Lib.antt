pub mod Spell
pub mod RightSteps
