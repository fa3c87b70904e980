pub mod AfterLemmas
pub mod BelowLemmas
pub mod CarryLemmas
pub mod EntryLemmas
pub mod ProvideLemmas
pub mod ScopeLemmas
