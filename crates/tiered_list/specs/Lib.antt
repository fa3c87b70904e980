pub mod Listed
pub mod Counted
pub mod Runs
