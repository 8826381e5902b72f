pub mod DeclaringLemmas
pub mod FillingLemmas
pub mod HeaderLemmas
