-- How structs, iterators and tables of the code are seen. No module outside of this folder and of laws cites one of it.
pub mod Names
pub mod Views
