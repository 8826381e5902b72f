-- How a command line is built up. No module outside of this folder cites one of it.
pub mod Building
