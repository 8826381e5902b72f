-- What is promised of the lines of opcodes.
pub mod Telling
