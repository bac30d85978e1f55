pub mod Journals
pub mod PerformanceHeadline
pub mod Worked
