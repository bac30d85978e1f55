pub mod Addresses
pub mod Bits
pub mod Fields
pub mod Windows
pub mod Changes
