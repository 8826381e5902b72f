-- What the contracts say, in the words of the chapters; and what a good forms package is.
pub mod Defaults
pub mod Expressions
pub mod GoodQuestions
pub mod Ids
pub mod Naming
pub mod Opcodes
pub mod Packages
pub mod Pages
pub mod Policy
pub mod Questions
pub mod References
pub mod Stores
pub mod Structure
pub mod WellFormed
