pub mod Meaning
pub mod code
pub mod laws
