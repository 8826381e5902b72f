pub mod CommandLine
pub mod Ids
pub mod Asked
pub mod code
