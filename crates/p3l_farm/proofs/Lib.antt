pub mod Rising
pub mod FarmSteps
