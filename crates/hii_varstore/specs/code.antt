-- How structs, iterators and tables of the code are seen. No module outside of this folder and of laws cites one of it.
pub mod Ids
pub mod Lending
pub mod Ranges
pub mod Reading
pub mod Table
