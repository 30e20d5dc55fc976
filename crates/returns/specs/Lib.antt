pub mod Header
pub mod Writers
