pub mod Verdicts
pub mod RecordLaws
pub mod RecordRules
pub mod OneHead
pub mod OneAnswer
