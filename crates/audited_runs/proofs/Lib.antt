pub mod Sound
pub mod Heads
pub mod Stepped
pub mod Walked
pub mod Woven
pub mod Again
pub mod RoundTrip
