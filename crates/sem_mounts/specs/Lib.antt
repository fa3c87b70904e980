pub mod Gathering
pub mod Laws
pub mod Reading
pub mod Seen
pub mod Memory
pub mod WordLists
