pub mod RunLemmas
pub mod RisingLemmas
pub mod WordLemmas
pub mod StandLemmas
pub mod WindowLemmas
pub mod FrontLemmas
pub mod AskedLemmas
