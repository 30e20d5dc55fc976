pub mod Counts
pub mod Keeping
pub mod Inverse
pub mod OneAnswer
