pub mod Cells
pub mod Settings
pub mod Soundness
pub mod Text
pub mod Leaving
pub mod Place
pub mod Row
pub mod Mirror
