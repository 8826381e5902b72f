pub mod Findings
pub mod Contents
pub mod Objects
pub mod Lines
pub mod Taking
pub mod code
