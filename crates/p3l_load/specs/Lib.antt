pub mod Codes
pub mod Load
pub mod Written
pub mod Compiled
