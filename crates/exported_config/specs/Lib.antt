pub mod Exported
pub mod Giving
pub mod code
