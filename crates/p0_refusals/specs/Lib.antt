pub mod Limits
pub mod Refusals
pub mod Answers
pub mod Mirror
