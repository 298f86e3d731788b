pub mod Costs
pub mod Standard
pub mod Wanted
pub mod File
