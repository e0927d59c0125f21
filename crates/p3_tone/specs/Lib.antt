pub mod TonePlace
pub mod Mirror
