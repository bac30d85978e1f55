pub mod Execution
pub mod Banks
