pub mod Rows
pub mod Lookup
pub mod Mirror
