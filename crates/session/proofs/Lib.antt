pub mod Facts
pub mod Bounds
pub mod Sound
pub mod OneAnswer
