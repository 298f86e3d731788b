pub mod Places
pub mod Body
pub mod Bare
pub mod Given
