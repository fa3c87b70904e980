pub mod Answers
pub mod AnswersKept
pub mod Room
pub mod After
