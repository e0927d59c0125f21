pub mod Settings
pub mod Literal
pub mod Output
