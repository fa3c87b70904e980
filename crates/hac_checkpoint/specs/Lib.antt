pub mod Areas
pub mod Flips
pub mod Laws
pub mod Roots
pub mod Writes
