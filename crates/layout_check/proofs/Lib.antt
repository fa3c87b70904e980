pub mod LimitLemmas
pub mod NamingLemmas
pub mod RiseLemmas
pub mod SearchLemmas
