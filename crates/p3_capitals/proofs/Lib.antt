pub mod Off
pub mod Unicode
pub mod Setting
pub mod Apart
