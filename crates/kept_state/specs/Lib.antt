pub mod Ready
pub mod Parts
pub mod Gains
pub mod Forgetting
pub mod Readers
pub mod Seen
pub mod Kept
pub mod After
