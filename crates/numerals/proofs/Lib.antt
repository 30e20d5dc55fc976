pub mod Pieces
pub mod Spelling
pub mod Counts
pub mod Spelled
pub mod Numerals
pub mod LastDigit
pub mod OneAnswer
