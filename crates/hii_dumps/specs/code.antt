-- How structs and iterators of the code are seen. No definition outside of this folder cites one of it; contracts of dump_audit do.
pub mod Lists
