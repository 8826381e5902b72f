-- How structs, iterators and tables of the code are seen. No module outside of this folder and of laws cites one of it.
pub mod CharViews
pub mod Columns
pub mod Elements
pub mod Fronts
pub mod Lines
pub mod ListedViews
pub mod PageViews
pub mod Pieces
pub mod RowViews
pub mod SeenTexts
pub mod Views
