pub mod Fields
pub mod Answers
pub mod Changes
pub mod Fits
pub mod Faults
pub mod code
pub mod laws
