pub mod Caps
pub mod Numbers
pub mod Chains
pub mod Apart
pub mod Sampling
pub mod Commands
