pub mod Turns
pub mod Given
pub mod Modules
pub mod Reading
