pub mod Settings
pub mod Literal
pub mod Output
pub mod Kept
pub mod Back
pub mod Room
pub mod Only
