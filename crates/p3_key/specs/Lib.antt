pub mod Process
pub mod Mirror
