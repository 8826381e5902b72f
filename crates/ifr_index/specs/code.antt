-- What the tables of the index hold. No module outside of these folders and of laws cites one of it.
pub mod Adding
pub mod Giving
pub mod Index
pub mod Levels
pub mod LockIndex
pub mod References
pub mod Tables
