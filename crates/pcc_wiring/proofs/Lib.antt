mod Rights
mod Overlapping
mod Held
pub mod FirstOverlaps
