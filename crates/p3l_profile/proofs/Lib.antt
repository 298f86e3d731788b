pub mod Entries
pub mod Highest
pub mod Noting
pub mod Room
