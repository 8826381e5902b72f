pub mod Reading
pub mod Written
pub mod code
pub mod laws
