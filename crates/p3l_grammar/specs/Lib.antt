pub mod Symbol
pub mod Written
pub mod Parser
pub mod Limits
pub mod Grammar
