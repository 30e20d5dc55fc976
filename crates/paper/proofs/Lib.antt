pub mod Claim
pub mod Contracts
pub mod Typo
