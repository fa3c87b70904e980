pub mod ReaderLemmas
pub mod GiveLemmas
pub mod TakeLemmas
