pub mod Sign
pub mod Digits
pub mod Texts
pub mod Lists
pub mod Family
pub mod Starts
