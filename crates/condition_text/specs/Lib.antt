pub mod Senses
pub mod Texts
pub mod SenseValues
pub mod code
