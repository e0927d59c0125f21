pub mod Steps
pub mod Makes
pub mod Same
pub mod Sound
pub mod Frame
pub mod Only
