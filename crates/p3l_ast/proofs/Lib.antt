pub mod Trees
pub mod Values
pub mod Turns
pub mod Sizes
pub mod Runs
pub mod Weights
pub mod Examples
