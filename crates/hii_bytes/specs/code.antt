-- How structs, iterators and tables of the code are seen. No module outside of this folder and of laws cites one of it.
pub mod FirstFaults
pub mod IdTables
pub mod NumbersLeft
pub mod NumberSets
pub mod Writing
