pub mod Bits
pub mod Commands
pub mod LimitsExactly
pub mod YesExactly
pub mod OneVerdict
pub mod Deciding
pub mod SomeVerdict
mod WorkedVerdicts
