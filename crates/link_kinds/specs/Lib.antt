pub mod Kinds
pub mod Seen
pub mod Kept
