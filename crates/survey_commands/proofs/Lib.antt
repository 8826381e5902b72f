mod PackageLemmas
mod ListLemmas
mod SetLemmas
mod ConfigLemmas
