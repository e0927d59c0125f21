pub mod Rules
pub mod Only
