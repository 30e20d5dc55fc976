pub mod Sums
pub mod Scans
pub mod Asking
pub mod OneAnswer
