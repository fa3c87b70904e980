mod CountedLemmas
mod FittingLemmas
pub mod LoopLemmas
mod MountedLemmas
pub mod PlacedLemmas
pub mod ToldLemmas
