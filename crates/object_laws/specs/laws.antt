-- What fits into objects.
pub mod Stores
pub mod Survey
pub mod Questions
pub mod Differences
pub mod Unlocks
pub mod Scripts
pub mod Checks
pub mod Lines
