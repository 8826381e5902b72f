mod CauseLemmas
mod ContentLemmas
mod FaultLemmas
pub mod LineLemmas
mod TextLemmas
mod WorkedLines
pub mod FoundLemmas
