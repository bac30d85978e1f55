pub mod Histories
pub mod Growing
pub mod Owned
pub mod Points
pub mod Posts
pub mod WholeRuns
