pub mod LayingLemmas
