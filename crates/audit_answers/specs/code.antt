-- How a run comes to its end, as the code of a command says it.
pub mod Endings
pub mod Listing
