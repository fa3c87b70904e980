mod AskedLemmas
mod BlockingLemmas
pub mod DraftLemmas
mod SettleLemmas
mod ShowLemmas
mod StandsLemmas
