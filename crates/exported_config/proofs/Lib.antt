pub mod ElementLemmas
pub mod GivingLemmas
pub mod NumberLemmas
pub mod PartLemmas
mod WorkedTexts
