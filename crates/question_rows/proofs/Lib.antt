mod BufferLemmas
mod DefaultLemmas
mod FieldLemmas
mod LinkLemmas
mod DecidingLemmas
pub mod PlainLemmas
mod RunLemmas
mod TextLemmas
mod WorkedCases
