pub mod Passed
pub mod RunLaws
pub mod Ends
