pub mod OneAnswer
pub mod Handed
