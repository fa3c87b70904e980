pub mod Finding
pub mod Paths
pub mod Counting
pub mod Asked
pub mod Told
pub mod Numbering
pub mod NextLinks
