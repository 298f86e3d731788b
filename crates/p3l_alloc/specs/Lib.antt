pub mod Best
pub mod Chosen
pub mod Explanation
pub mod Need
pub mod Soonest
pub mod Table
pub mod Walk
