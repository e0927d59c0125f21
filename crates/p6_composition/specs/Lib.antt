pub mod UndoAnswer
pub mod Calls
pub mod Mirror
