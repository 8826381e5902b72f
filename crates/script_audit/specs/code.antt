-- How structs of the code are seen.
pub mod WordCounts
pub mod Pages
pub mod Forbiddings
pub mod Stops
pub mod LinesLeft
