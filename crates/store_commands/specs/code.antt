-- What keeps a run from a source, what it fills, and what it writes. No module outside of this folder cites one of it.
pub mod Defaulting
pub mod Imaging
pub mod Sources
pub mod Exporting
