pub mod GatheringLemmas
pub mod StoreLemmas
pub mod QuestionLemmas
pub mod ReferenceLemmas
pub mod RuleLemmas
pub mod AllLemmas
