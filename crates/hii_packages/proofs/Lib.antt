pub mod FrontLemmas
pub mod LeftLemmas
pub mod ListLemmas
pub mod SpellLemmas
pub mod PlaceLemmas
pub mod Examples
