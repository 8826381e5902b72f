pub mod Stores
pub mod code
