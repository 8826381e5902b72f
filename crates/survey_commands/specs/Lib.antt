pub mod Surveying
pub mod Survey
pub mod code
