pub mod FieldLaws
pub mod Fitting
pub mod PartLaws
pub mod OneAnswer
