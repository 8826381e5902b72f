-- How structs of the code are seen. No module outside of this folder cites one of it.
pub mod States
pub mod Standing
pub mod Detailing
pub mod Lacking
pub mod Naming
pub mod Settings
