pub mod GeneratingLemmas
pub mod ShortLemmas
