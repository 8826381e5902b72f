-- How structs, iterators and tables of the code are seen. No module outside of this folder and of laws cites one of it.
pub mod Opened
pub mod Standing
pub mod Changing
pub mod Counting
pub mod Defaulting
