mod Forgetting
mod Types
mod Bodies
mod Calls
mod Modules
mod Programs
mod Meaning
pub mod Alike
pub mod Leaves
