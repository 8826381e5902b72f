-- How facts are written, and what tells facts.
pub mod Written
pub mod Telling
