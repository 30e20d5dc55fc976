pub mod Gates
pub mod OneAnswer
