pub mod TallyLemmas
pub mod DeepLemmas
pub mod SwapLemmas
pub mod LongLemmas
pub mod ShallowLemmas
pub mod PlacedLemmas
pub mod ShareLemmas
