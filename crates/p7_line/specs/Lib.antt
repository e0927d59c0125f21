pub mod Line
pub mod Method
pub mod Mirror
