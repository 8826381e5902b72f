pub mod BuildingLemmas
pub mod IdLemmas
pub mod ReadingLemmas
mod WorkedIds
