pub mod Written
pub mod Only
