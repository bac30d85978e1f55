pub mod Spelling
pub mod Windows
pub mod Faults
pub mod Reading
pub mod Answers
