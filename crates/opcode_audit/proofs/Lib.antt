pub mod FieldLemmas
pub mod StringLemmas
pub mod LineLemmas
pub mod TailLemmas
pub mod NumberLemmas
pub mod DigitLemmas
pub mod TextLemmas
pub mod TellingLemmas
pub mod IdLemmas
mod WorkedLines
