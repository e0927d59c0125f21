pub mod Ucd
pub mod Case
pub mod Canonical
