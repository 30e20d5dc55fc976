pub mod Blocks
pub mod Origins
pub mod Names
pub mod OneAnswer
pub mod Ends
