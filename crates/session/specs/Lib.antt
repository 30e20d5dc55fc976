pub mod Session
pub mod Steps
