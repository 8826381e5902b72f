-- How structs and tables of the code are seen. No module outside of this folder cites one of it.
pub mod Columns
pub mod Strings
pub mod Names
pub mod Settings
