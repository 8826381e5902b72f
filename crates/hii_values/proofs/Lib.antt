pub mod ItemLemmas
pub mod ListLemmas
pub mod UnitLemmas
pub mod MetLemmas
pub mod OrderLemmas
pub mod OptionLemmas
pub mod OptionTableLemmas
