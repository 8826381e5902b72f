pub mod Defaults
pub mod code
pub mod laws
