pub mod Courier
pub mod Steps
