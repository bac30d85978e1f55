pub mod Devices
pub mod Channel
pub mod Histories
