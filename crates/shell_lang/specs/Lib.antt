pub mod Quotes
pub mod RawWords
pub mod Limits
pub mod Laws
