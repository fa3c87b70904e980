-- A run: what commands lead to, why they are refused, and the turns of a script.
pub mod Answers
pub mod Given
pub mod Asks
pub mod Resolving
pub mod Standing
pub mod Refusals
pub mod Showing
pub mod Settings
pub mod Checkpoints
pub mod Play
pub mod Costs
pub mod History
