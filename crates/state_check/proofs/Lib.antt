pub mod EdgeLemmas
pub mod CycleLemmas
pub mod ListLemmas
pub mod ValidLemmas
