pub mod Endings
pub mod Listing
pub mod GivenFiles
pub mod code
