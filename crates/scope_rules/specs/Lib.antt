pub mod After
pub mod Fates
pub mod Made
