pub mod Case
pub mod Canonical
pub mod Tones
pub mod ToneOff
pub mod Ordering
