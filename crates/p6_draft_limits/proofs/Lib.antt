pub mod Held
pub mod Form
pub mod Readers
pub mod Panels
