pub mod Runs
pub mod Signatures
pub mod Complete
pub mod Sound
pub mod Exact
pub mod Nesting
