pub mod NameLemmas
pub mod SpokenLemmas
pub mod Examples
