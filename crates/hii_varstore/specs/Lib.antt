pub mod Layout
pub mod Stores
pub mod StoreNodes
pub mod Image
pub mod Faults
pub mod code
