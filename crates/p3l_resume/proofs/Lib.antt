pub mod Seen
pub mod Writing
pub mod FirstFault
