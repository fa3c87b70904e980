pub mod RisingLemmas
pub mod SetLemmas
pub mod RowLemmas
pub mod BlockLemmas
pub mod SlotLemmas
pub mod PoolLemmas
pub mod ThinLemmas
