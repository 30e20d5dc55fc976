pub mod RecordA
pub mod RecordASteps
pub mod RulesA
