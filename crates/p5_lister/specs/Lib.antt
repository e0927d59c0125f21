pub mod Meaning
pub mod Mirror
