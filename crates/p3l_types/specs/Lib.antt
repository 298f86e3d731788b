pub mod Verdict
pub mod Constants
pub mod Shape
