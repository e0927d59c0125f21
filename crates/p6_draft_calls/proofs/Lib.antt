pub mod Writing
pub mod Filling
pub mod Reading
pub mod Room
pub mod Only
