pub mod AgreeLemmas
pub mod ApartLemmas
pub mod AreaLemmas
pub mod FlipLemmas
pub mod HeadLemmas
pub mod LogLemmas
pub mod RootLemmas
pub mod WriteLemmas
