pub mod Base
pub mod Uo
pub mod Ua
pub mod Mark
pub mod InWords
pub mod Only
