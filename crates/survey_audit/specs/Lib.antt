pub mod AuditedAt
pub mod Counts
pub mod Finding
pub mod Lines
pub mod Opened
pub mod code
