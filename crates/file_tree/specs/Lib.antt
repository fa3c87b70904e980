pub mod Ready
pub mod Bodies
pub mod Documents
pub mod Seen
pub mod Shape
pub mod Answers
pub mod Changes
pub mod Loading
