pub mod CensusLaws
pub mod OneAnswer
