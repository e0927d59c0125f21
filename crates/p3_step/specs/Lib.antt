pub mod Key
pub mod Mirror
