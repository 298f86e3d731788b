pub mod Cut
pub mod Slice
