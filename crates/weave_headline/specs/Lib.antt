pub mod TraceLog
pub mod WordHeadline
pub mod Worked
