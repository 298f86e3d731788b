pub mod Linked
pub mod Widths
pub mod Saved
pub mod Traps
pub mod Kept
pub mod Loops
pub mod Start
