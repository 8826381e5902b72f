-- How structs and iterators of the code are seen, and how the code reads and writes a text. No module outside of this folder and of laws cites one of it.
pub mod Parts
pub mod PartReading
pub mod Reading
pub mod Written
pub mod BlocksLeft
pub mod Elements
pub mod TextViews
pub mod Views
