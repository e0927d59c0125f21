pub mod Answers
pub mod Only
pub mod Room
