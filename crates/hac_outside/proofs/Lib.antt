pub mod KnownLemmas
pub mod ReadLemmas
