pub mod Scope
pub mod Mention
pub mod Seq
pub mod Eval
