pub mod TableLemmas
pub mod PlaceLemmas
pub mod ImageLemmas
pub mod FaultLemmas
pub mod WriteLemmas
pub mod LawLemmas
pub mod SpellLemmas
pub mod StoreNodeLemmas
