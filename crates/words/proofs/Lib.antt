pub mod Cells
pub mod Examples
pub mod OneAnswer
