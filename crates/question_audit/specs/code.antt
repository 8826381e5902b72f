-- How structs of the code are seen, and what the code decides step by step. No definition outside of this folder cites one of these;
-- contracts of question_objects do.
pub mod Pages
pub mod Names
pub mod Taking
pub mod Meeting
pub mod MetForms
pub mod Closings
pub mod GuardTables
pub mod Choices
pub mod Escaped
pub mod Looking
pub mod Beginnings
pub mod Naming
pub mod Places
pub mod NamedRules
pub mod Leading
pub mod Ids
pub mod ReasonParts
pub mod ReasonsLeft
