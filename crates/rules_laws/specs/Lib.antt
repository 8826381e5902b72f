pub mod Denials
pub mod laws
