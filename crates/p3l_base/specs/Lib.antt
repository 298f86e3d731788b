pub mod Cut
pub mod Limits
pub mod Memory
pub mod Slice
pub mod laws
