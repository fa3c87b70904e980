pub mod FieldLemmas
pub mod LoopLemmas
pub mod QueryLemmas
pub mod PayloadLemmas
pub mod SnapshotLemmas
