pub mod Write
pub mod Read
