pub mod Run
pub mod Floor
pub mod Typing
