pub mod Order
pub mod Mirror
pub mod Numbering
