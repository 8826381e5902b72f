-- How a run is asked, and what keeps a list from being opened. No module outside of this folder cites one of it.
pub mod Givens
pub mod Judged
pub mod Opened
