pub mod Declaring
pub mod Defaulted
pub mod StoreLines
pub mod Fillings
pub mod HeaderLines
pub mod Images
pub mod code
