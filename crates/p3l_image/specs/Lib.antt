pub mod Instr
pub mod Net
pub mod Image
pub mod Refusal
pub mod Places
pub mod laws
