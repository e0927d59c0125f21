pub mod Bounded
pub mod Written
pub mod SameWord
pub mod Keys
pub mod Texts
pub mod Typing
pub mod Longer
pub mod Only
