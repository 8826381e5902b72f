-- How a store is seen that is filled. No definition outside of this folder cites one of it; contracts of audit_commands do.
pub mod Defaulted
pub mod Fillings
