pub mod ListingLemmas
pub mod OptionLemmas
pub mod MemberLemmas
pub mod NodeLemmas
pub mod WordLemmas
