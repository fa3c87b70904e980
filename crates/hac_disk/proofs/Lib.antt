pub mod MemoryLemmas
pub mod Moments
pub mod PartLemmas
pub mod ContentsLemmas
pub mod TornLemmas
