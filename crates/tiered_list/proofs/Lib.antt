pub mod RunLemmas
pub mod EditLemmas
