pub mod Tables
pub mod Faults
pub mod Pieces
pub mod Worked
pub mod Texts
