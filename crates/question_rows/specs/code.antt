-- How structs of the code are seen. No definition outside of this folder cites one of it.
pub mod Buffers
pub mod Deciding
pub mod Knowing
pub mod Marks
