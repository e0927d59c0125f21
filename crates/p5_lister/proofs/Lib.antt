pub mod Reading
pub mod Back
pub mod Meaning
pub mod Answers
pub mod AnyList
pub mod Demand3
pub mod Room
pub mod Only
