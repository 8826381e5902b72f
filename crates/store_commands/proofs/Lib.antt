pub mod ImagingLemmas
pub mod SourceLemmas
pub mod TextLemmas
pub mod ExportingLemmas
