pub mod Words
pub mod InRows
pub mod Keys
pub mod Matrices
pub mod Only
