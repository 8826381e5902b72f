pub mod Items
pub mod FieldTypes
pub mod Inputs
pub mod Denials
pub mod Types
pub mod Answers
pub mod code
