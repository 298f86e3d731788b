pub mod Lists
mod Rescues
pub mod Tokens
pub mod Bodies
pub mod FirstFault
