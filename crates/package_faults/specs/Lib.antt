pub mod AllFaults
pub mod code
