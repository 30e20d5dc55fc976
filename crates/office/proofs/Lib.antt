pub mod AsCalls
pub mod DeskDemand3
pub mod AsArrivals
pub mod DeskMixed
