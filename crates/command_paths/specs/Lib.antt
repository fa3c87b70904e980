pub mod Resolver
pub mod Traces
pub mod Walked
