pub mod Handling
pub mod Posting
pub mod Tracing
pub mod Lies
