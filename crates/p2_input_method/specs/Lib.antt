pub mod Rules
pub mod Mirror
