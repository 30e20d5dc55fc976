pub mod Putting
pub mod Examples
pub mod OneAnswer
