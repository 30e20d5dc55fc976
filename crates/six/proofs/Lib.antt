pub mod FromTheEnd
pub mod Fronts
pub mod OneAnswer
