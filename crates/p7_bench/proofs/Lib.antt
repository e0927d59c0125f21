pub mod Run
pub mod Rows
pub mod Typing
