pub mod Sizes
pub mod Constants
