pub mod Text
pub mod Rules
pub mod Means
pub mod Exact
pub mod Deliveries
pub mod PaperSheet
