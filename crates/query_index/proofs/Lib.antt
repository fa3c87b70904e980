mod SieveLemmas
pub mod AskLemmas
pub mod IndexLemmas
pub mod LawLemmas
pub mod ListLemmas
pub mod NumberLemmas
pub mod PostingLemmas
