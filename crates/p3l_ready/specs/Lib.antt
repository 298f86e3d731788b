pub mod At
pub mod Flags
