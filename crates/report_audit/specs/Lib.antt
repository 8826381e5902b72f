pub mod Heads
pub mod Counts
pub mod Contents
pub mod Forms
pub mod Reports
pub mod code
pub mod laws
