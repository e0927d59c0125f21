pub mod Bytes
pub mod Program
pub mod Ends
pub mod Over
pub mod Parts
pub mod Whole
pub mod Only
