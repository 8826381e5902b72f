-- How structs of the code are seen. No definition outside of this folder cites one of it.
pub mod Holding
