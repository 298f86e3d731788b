pub mod Unroll
pub mod Fine
pub mod Counting
pub mod Outs
pub mod Room
