pub mod Shown
pub mod Opening
pub mod Run
pub mod code
pub mod laws
