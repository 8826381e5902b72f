pub mod TellingLemmas
pub mod PieceLemmas
pub mod RunLemmas
pub mod FieldLemmas
pub mod AskedLemmas
pub mod DistinctLemmas
pub mod EqualLemmas
