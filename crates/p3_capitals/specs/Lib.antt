pub mod Port
pub mod Unicode
pub mod Apart
