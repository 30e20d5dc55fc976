pub mod Numbers
pub mod Ledger
pub mod Row
pub mod Steps
