pub mod Carried
pub mod OneAnswer
