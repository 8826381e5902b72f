-- How form sets are seen whose defaults are laid. No definition outside of this folder cites one of it.
pub mod Views
