pub mod Deliver
pub mod RulesDue
