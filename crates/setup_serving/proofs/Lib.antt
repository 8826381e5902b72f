pub mod RunningLemmas
pub mod KnownLemmas
pub mod ServingLemmas
pub mod HeadlineLemmas
pub mod AtFaultLemmas
