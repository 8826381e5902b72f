pub mod CountLemmas
pub mod HeadLemmas
pub mod HeldLemmas
pub mod EmptyLemmas
pub mod TagLemmas
pub mod RowTagLemmas
pub mod PageTagLemmas
