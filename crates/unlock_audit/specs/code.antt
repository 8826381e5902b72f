-- How structs of the code are seen, and words of its loops.
pub mod Askings
pub mod Offered
pub mod Counting
pub mod Tallies
pub mod Answers
pub mod Details
pub mod Owning
