pub mod Drafts
pub mod DraftShape
pub mod Blocking
pub mod Seen
pub mod Shape
pub mod Questions
pub mod Settling
