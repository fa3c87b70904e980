mod ResolveLemmas
mod TraceLemmas
mod WalkedLemmas
