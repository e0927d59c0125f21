pub mod Line
pub mod Mirror
