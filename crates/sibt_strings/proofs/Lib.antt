pub mod EndLemmas
pub mod UnitLemmas
pub mod TextLemmas
pub mod BlockLemmas
pub mod SpellingLemmas
pub mod ReadLemmas
pub mod IdLemmas
pub mod FaultLemmas
pub mod TableLemmas
pub mod Examples
mod SharedLemmas
