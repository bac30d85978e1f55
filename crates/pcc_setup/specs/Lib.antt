pub mod Openings
pub mod Packages
pub mod Processors
pub mod Equipment
pub mod RefusalText
pub mod SetUps
pub mod Worked
