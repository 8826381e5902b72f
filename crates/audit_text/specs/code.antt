-- How enums of the code are seen. Contracts of other crates cite it where they choose one.
pub mod Cases
pub mod Names
