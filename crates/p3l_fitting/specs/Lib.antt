pub mod Survey
pub mod Decided
pub mod Restoring
