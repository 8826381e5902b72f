-- How structs, iterators and tables of the code are seen. No module outside of this folder and of laws cites one of it.
pub mod AllConditionsLeft
pub mod AnyConditions
pub mod AroundViews
pub mod ConditionsInLeft
pub mod ConditionsLeft
pub mod DependenceLeft
pub mod Frames
pub mod GivingLeft
pub mod GuardsInLeft
pub mod Lists
pub mod Locked
pub mod LocksLeft
pub mod NoSubmitsLeft
pub mod OptionsLeft
pub mod Parts
pub mod ReadForms
pub mod StatementsLeft
