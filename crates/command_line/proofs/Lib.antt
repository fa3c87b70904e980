pub mod WordSpaces
pub mod WordNames
pub mod WordLooks
pub mod WordRowLemmas
pub mod WordLemmas
pub mod WordMatches
