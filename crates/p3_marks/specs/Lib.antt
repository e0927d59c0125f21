pub mod Uo
pub mod Ua
pub mod Mark
pub mod Mirror
