pub mod NumberLemmas
pub mod DigitLemmas
pub mod NumberListLemmas
pub mod NumberSetLemmas
pub mod SearchLemmas
pub mod FaultLemmas
pub mod ChapterFaultLemmas
pub mod WritingLemmas
pub mod FirstFaultLemmas
mod WorkedTexts
