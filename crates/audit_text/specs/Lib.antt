pub mod Texts
pub mod Words
pub mod Stores
pub mod code
pub mod Passing
