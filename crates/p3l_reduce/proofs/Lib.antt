pub mod Placing
pub mod Whole
pub mod Segmenting
pub mod MatchedSteps
pub mod ReduceSteps
