pub mod Raw
pub mod Undo
pub mod Call
pub mod Mirror
