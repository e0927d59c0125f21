pub mod Choices
pub mod Tables
pub mod Arms
pub mod Tests
pub mod Numbers
pub mod Only
pub mod OnlyWalked
