-- How structs, iterators and tables of the code are seen. No module outside of this folder and of laws cites one of it.
pub mod Codes
pub mod Marks
pub mod Ops
pub mod Props
pub mod Roles
pub mod Tables
pub mod Views
