pub mod Contracts
pub mod OneAnswer
