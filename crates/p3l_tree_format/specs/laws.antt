pub mod Slice
pub mod Version
pub mod Rescue
pub mod Module
pub mod Form
pub mod Tree
pub mod Places
