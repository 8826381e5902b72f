pub mod Replies
pub mod laws
