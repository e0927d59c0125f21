pub mod Bytes
pub mod Mirror
