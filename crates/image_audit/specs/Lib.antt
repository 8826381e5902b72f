pub mod Export
pub mod Lines
pub mod Difference
