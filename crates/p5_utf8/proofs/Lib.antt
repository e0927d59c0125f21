pub mod Grammar
pub mod CharAt
pub mod Encode
pub mod Exact
pub mod Putting
pub mod Examples
pub mod Only
