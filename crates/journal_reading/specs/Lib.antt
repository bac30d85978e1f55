pub mod Told
pub mod Faults
pub mod Rows
pub mod Parts
pub mod Worked
