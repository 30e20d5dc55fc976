pub mod DeskCalls
pub mod DeskArrivals
