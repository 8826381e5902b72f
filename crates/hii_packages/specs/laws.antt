-- What the laws of the crate say, and the words that they alone need.
pub mod Numbers
pub mod Spelling
pub mod Places
pub mod Faults
