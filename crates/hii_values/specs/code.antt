-- How structs and iterators of the code are seen. No module outside of this folder cites one of it.
pub mod ChoiceViews
pub mod Contents
pub mod Fitting
pub mod ItemsLeft
pub mod MetValues
pub mod Offers
pub mod OptionPlaces
pub mod OptionTables
pub mod StoredLeft
pub mod TypeViews
pub mod UnitBlocks
pub mod Widths
