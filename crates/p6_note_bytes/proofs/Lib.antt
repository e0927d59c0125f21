pub mod Reading
pub mod Writing
pub mod Round
pub mod Calls
pub mod Kept
pub mod Only
