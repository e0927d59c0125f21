pub mod Choice
pub mod Text
