pub mod Spelling
pub mod Layout
pub mod Packing
pub mod HeaderBits
