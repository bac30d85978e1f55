pub mod Registers
pub mod Roles
pub mod Wirings
pub mod Faults
pub mod Overlaps
pub mod Places
