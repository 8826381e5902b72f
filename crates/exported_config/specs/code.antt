-- What stands beside the code. No definition outside of this folder cites one of it.
pub mod Views
