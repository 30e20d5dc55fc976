pub mod Filled
pub mod Judged
pub mod Placed
pub mod Readiness
pub mod Applied
pub mod Paces
pub mod OneAnswer
