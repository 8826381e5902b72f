pub mod State
pub mod Texts
pub mod Configuration
pub mod Step
pub mod Renewed
pub mod Opening
