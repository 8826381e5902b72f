pub mod Json
pub mod Objects
pub mod Telling
