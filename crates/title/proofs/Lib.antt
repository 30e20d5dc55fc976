pub mod ZeroTable
pub mod ZeroWalk
pub mod TitleFits
pub mod OneAnswer
