pub mod Advice
pub mod Bottleneck
pub mod Falls
pub mod Help
pub mod Lines
