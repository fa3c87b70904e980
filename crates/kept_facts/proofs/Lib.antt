pub mod OrderLemmas
pub mod UseLemmas
pub mod GainLemmas
pub mod LenderLemmas
pub mod RoomLemmas
pub mod FewLemmas
