pub mod Blocks
pub mod Posts
pub mod Extremes
pub mod RulesPosts
