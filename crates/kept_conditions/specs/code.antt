-- How what is kept of conditions, and on what they depend, is seen. No module outside of this folder and of laws cites one of it.
pub mod Cache
pub mod Collection
pub mod Dependents
pub mod Index
pub mod Invalidation
