pub mod AtLemmas
pub mod Cyclic
pub mod Counting
