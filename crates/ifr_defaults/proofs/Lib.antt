pub mod NoSourceLemmas
pub mod SourceLemmas
mod WorkedCases
