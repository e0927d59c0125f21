pub mod Cut
pub mod Verdict
pub mod Answers
