pub mod Refusals
pub mod Readings
pub mod Sendings
pub mod CommandHistory
pub mod Readying
pub mod Executions
pub mod Lending
