pub mod JoinTree
pub mod Reduce
pub mod ReduceKind
pub mod Meaning
pub mod laws
