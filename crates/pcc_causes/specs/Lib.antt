pub mod Causes
pub mod Clock
