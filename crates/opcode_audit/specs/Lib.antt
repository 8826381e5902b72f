pub mod Layouts
pub mod Facts
pub mod Words
pub mod Walk
pub mod Lines
pub mod code
pub mod laws
