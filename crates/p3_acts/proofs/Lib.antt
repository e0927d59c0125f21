pub mod Idle
pub mod Only
