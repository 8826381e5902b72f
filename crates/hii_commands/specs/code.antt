-- How structs, iterators and tables of the code are seen, and how the code reads a line. No module outside of this folder and of laws cites one of it.
pub mod Held
pub mod Lines
pub mod Reading
