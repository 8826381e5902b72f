-- How structs, iterators and tables of the code are seen. No module outside of this folder and of laws cites one of it.
pub mod Bytes
pub mod Checked
pub mod Counting
pub mod Expressions
pub mod Named
pub mod Names
pub mod NamesLeft
pub mod OpcodesLeft
pub mod ReferencesLeft
pub mod RuleValues
pub mod Rules
pub mod Stacks
pub mod Supports
pub mod Views
