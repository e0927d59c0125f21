pub mod CutPlaces
pub mod Only
