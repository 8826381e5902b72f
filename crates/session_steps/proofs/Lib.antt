pub mod SourceLemmas
pub mod GoLemmas
pub mod RoutedLemmas
pub mod KeepLemmas
pub mod FlushLemmas
