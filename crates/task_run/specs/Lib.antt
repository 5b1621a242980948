pub mod Values
pub mod Layer
pub mod Counted
pub mod Work
pub mod RuleStatus
pub mod Verdicts
