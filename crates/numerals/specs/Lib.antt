pub mod Numerals
pub mod Pieces
