pub mod KeepLemmas
pub mod SemanticLemmas
pub mod SetLemmas
pub mod ItemLemmas
mod TouchLemmas
pub mod NewDirLemmas
pub mod MarkLemmas
pub mod TaskLemmas
pub mod EdgeLemmas
pub mod AroundLemmas
pub mod CostLemmas
