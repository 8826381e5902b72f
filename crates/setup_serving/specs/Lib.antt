pub mod AtFault
pub mod Headline
pub mod Serving
pub mod code
