pub mod ArrayLemmas
pub mod NameLemmas
