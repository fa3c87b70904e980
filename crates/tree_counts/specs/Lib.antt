pub mod Depths
pub mod Seated
