pub mod Rows
pub mod Text
pub mod Faults
pub mod Limits
pub mod Reading
pub mod Writing
pub mod Made
