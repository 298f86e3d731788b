pub mod Page
pub mod Flag
pub mod Handbook
