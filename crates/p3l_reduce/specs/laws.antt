pub mod Heap
pub mod JoinView
pub mod SizeLaw
pub mod ReduceLaw
pub mod ReduceTyping
pub mod ReduceFound
pub mod ReduceWidths
