pub mod Rows
pub mod Entries
pub mod Packages
pub mod Raising
pub mod Testing
pub mod PackageText
pub mod Bindings
pub mod Worked
