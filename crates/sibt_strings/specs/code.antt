-- How structs, iterators and tables of the code are seen. No module outside of this folder and of laws cites one of it.
pub mod Blocks
pub mod Ends
pub mod Parts
pub mod Table
pub mod Texts
pub mod Views
