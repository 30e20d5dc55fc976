pub mod RecordB
pub mod RecordC
pub mod RulesB
pub mod RulesC
pub mod Steps
