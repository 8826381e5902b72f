pub mod Laying
pub mod code
