pub mod Reading
pub mod Tests
pub mod Sound
pub mod Writing
pub mod Round
pub mod Stored
pub mod Fields
pub mod Only
