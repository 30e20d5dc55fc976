pub mod Loops
pub mod Fed
pub mod Numbered
pub mod OneAnswer
