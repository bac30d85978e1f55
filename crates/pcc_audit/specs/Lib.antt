pub mod Verdicts
pub mod WishBits
pub mod Judged
pub mod Good
pub mod Worked
