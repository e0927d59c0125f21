pub mod Draft
pub mod Mirror
