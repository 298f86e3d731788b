pub mod Port
pub mod Plain
pub mod Stage
pub mod Condition
pub mod Index
pub mod Located
pub mod Map
pub mod Reduce
