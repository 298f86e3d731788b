pub mod Surveying
pub mod Sized
pub mod FitsLaw
pub mod Restored
pub mod OwnsSteps
