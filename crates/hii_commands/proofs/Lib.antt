pub mod CutLemmas
pub mod ScriptLemmas
pub mod HeldLemmas
pub mod WordLemmas
pub mod FrontLemmas
pub mod CommandLemmas
pub mod ReadingLemmas
pub mod Examples
