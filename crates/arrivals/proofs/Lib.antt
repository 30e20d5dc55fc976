pub mod AsSingles
pub mod MixedDemand3
pub mod Examples
