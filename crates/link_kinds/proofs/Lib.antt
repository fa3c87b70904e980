pub mod KindLemmas
pub mod SeenLemmas
pub mod KeptLemmas
pub mod HasLemmas
pub mod PutLemmas
