pub mod Refused
mod Opens
pub mod Checks
pub mod WholeTables
mod FirstFaults
mod PackageLaws
mod Sharing
mod Bound
mod Chain
mod Checking
pub mod OneFault
pub mod Controllers
mod Housing
