pub mod World
pub mod Conditions
pub mod Policy
pub mod Warned
pub mod code
pub mod laws
