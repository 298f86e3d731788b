pub mod Given
pub mod OneNode
pub mod Parts
pub mod Loops
