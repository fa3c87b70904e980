pub mod Graphs
pub mod Inner
pub mod Searches
pub mod Laws
pub mod Passed
pub mod Steps
pub mod Orders
