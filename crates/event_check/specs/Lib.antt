pub mod Fitting
pub mod Mounting
pub mod Told
