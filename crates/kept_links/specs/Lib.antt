pub mod Kept
pub mod Tasks
pub mod Items
pub mod Coming
pub mod Transition
