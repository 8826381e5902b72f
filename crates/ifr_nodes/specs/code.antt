-- How structs, iterators and tables of the code are seen. No module outside of this folder and of laws cites one of it.
pub mod Around
pub mod Causes
pub mod Checked
pub mod Ends
pub mod FormIds
pub mod Kept
pub mod KeptRules
pub mod Met
pub mod PartsLeft
pub mod RuleNodes
pub mod Rules
pub mod Scopes
pub mod Views
pub mod Visits
pub mod Walking
