pub mod SetLemmas
pub mod SearchLemmas
pub mod ListLemmas
pub mod FoundLemmas
pub mod OverLemmas
pub mod TargetLemmas
