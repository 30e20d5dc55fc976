pub mod Columns
pub mod Sendable
pub mod ExtremeLaws
pub mod GridJudged
pub mod Verdicts
pub mod OneAnswer
