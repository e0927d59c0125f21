pub mod State
pub mod Parts
pub mod Reached
