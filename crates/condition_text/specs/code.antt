-- How the code makes texts. No module outside of this folder cites one of it.
pub mod Streams
pub mod Openings
pub mod OpeningsLeft
pub mod Conditions
