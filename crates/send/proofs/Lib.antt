pub mod ProfileLaws
pub mod AnswerLaws
pub mod BlockCells
pub mod BlockPlaces
pub mod WholeText
pub mod WholeJudged
pub mod WholeBlocks
pub mod OneAnswer
