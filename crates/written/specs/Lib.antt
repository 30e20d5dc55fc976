pub mod Cells
pub mod Blocks
pub mod Sending
pub mod Painted
