pub mod Steps
pub mod Ints
pub mod Lens
pub mod Elements
pub mod Items
pub mod Loop
pub mod Laws
pub mod Written
