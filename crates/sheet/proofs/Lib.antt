pub mod TableA
pub mod RowRules
pub mod HeaderA
pub mod RulesA
pub mod SheetObeys
pub mod OneTold
pub mod OneAnswer
