pub mod Zeros
pub mod Mirror
