pub mod Devices
pub mod States
pub mod StateLaws
pub mod Keeps
pub mod Ranges
pub mod Openings
pub mod Worked
