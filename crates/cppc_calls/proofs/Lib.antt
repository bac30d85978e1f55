pub mod Put
pub mod Refusals
