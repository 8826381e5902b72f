pub mod Texts
pub mod RowValues
pub mod Pages
pub mod code
