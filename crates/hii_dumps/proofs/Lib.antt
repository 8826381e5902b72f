pub mod ListLemmas
mod Examples
