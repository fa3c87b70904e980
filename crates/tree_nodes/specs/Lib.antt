pub mod Nodes
pub mod Search
pub mod Documents
