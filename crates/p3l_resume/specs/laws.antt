pub mod Words
pub mod Token
pub mod Shot
pub mod Saved
pub mod Places
