pub mod Puts
pub mod Statuses
