pub mod EndingLemmas
pub mod ListingLemmas
pub mod GivenFileLemmas
