pub mod Reading
pub mod laws
