pub mod Memory
pub mod LineClocks
