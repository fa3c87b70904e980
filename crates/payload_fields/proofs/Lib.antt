pub mod FrontLemmas
mod PartLemmas
pub mod PutLemmas
