-- How the faults are gathered. No module outside of this folder cites one of it.
pub mod Gathering
pub mod Parts
pub mod MetRules
pub mod Met
