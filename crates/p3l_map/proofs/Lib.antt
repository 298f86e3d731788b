pub mod GroupSteps
pub mod MapSteps
