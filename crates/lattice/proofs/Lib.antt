pub mod Kept
pub mod Multiples
pub mod Cases
pub mod LatticeLaws
pub mod OneAnswer
