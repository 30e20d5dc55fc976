pub mod Field
pub mod Rules
pub mod Told
