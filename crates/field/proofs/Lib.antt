pub mod Stretches
pub mod Ranges
pub mod Rules
pub mod FieldRules
pub mod Points
pub mod OneAnswer
pub mod OneTold
