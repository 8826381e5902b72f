pub mod SplittingLemmas
pub mod JudgingLemmas
pub mod DifferingLemmas
pub mod AuditingLemmas
pub mod UnlockingLemmas
