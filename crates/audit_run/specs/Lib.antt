pub mod Cuts
pub mod Journals
pub mod Boards
pub mod Audits
pub mod Worked
