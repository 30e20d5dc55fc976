pub mod HeadingFacts
pub mod LimitKinds
pub mod Fresh
pub mod OneAnswer
pub mod Modest
