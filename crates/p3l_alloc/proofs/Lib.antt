pub mod Added
pub mod Chosen
pub mod Fewest
pub mod First
pub mod Outside
pub mod Rows
pub mod Soonest
