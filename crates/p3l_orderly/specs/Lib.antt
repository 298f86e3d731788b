pub mod Walk
pub mod Walked
pub mod Root
pub mod Sound
