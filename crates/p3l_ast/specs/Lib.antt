pub mod Meaning
pub mod Notation
pub mod Refusal
pub mod Tree
pub mod Unplaced
