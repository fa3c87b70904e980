pub mod Judging
pub mod Told
pub mod Routes
pub mod Settled
pub mod Probes
pub mod Laws
