pub mod Asking
pub mod Inner
pub mod Laws
pub mod Numbers
pub mod Seen
pub mod Sieve
