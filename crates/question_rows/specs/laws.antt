-- What the laws of the crate say, and the words that they alone need.
pub mod Plain
