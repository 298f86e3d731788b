pub mod Numbers
pub mod Apps
pub mod Parsing
pub mod OneCommand
