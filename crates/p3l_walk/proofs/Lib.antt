pub mod Given
pub mod Turned
pub mod ByParts
pub mod Noting
