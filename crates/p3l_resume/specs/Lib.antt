pub mod Words
pub mod Token
pub mod Shot
pub mod Saved
pub mod Ranges
pub mod Refusal
pub mod Places
pub mod laws
