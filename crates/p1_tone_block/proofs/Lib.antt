pub mod Places
pub mod Only
