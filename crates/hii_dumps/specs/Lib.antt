pub mod Dumps
pub mod code
