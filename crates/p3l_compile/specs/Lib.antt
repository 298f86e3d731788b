pub mod Scope
pub mod Phrase
pub mod Statement
pub mod Correct
pub mod Depth
pub mod Limits
pub mod Condition
pub mod Leaves
