pub mod Past
pub mod Ways
pub mod Steps
pub mod Ahead
pub mod Anew
pub mod Fitted
pub mod Moves
