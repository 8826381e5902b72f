pub mod Touching
pub mod Kept
pub mod code
pub mod laws
