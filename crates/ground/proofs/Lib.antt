pub mod BlocksJoined
pub mod Heights
pub mod Weights
pub mod Tallies
pub mod MergedTallies
pub mod BlockCounts
pub mod PostsRead
pub mod PostRules
