pub mod Instr
pub mod Net
pub mod Image
pub mod Places
