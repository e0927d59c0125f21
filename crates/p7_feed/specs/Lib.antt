pub mod Program
pub mod Mirror
