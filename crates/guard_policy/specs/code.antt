-- How structs, iterators and tables of the code are seen. No module outside of this folder and of laws cites one of it.
pub mod Answers
pub mod AskedLeft
pub mod Bytes
pub mod Effects
pub mod KeptConditions
pub mod OpenValues
pub mod RuleValues
pub mod Standings
pub mod SupportLeft
pub mod Surroundings
pub mod Views
pub mod WarningsLeft
pub mod Worlds
