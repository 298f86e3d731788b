pub mod OldText
pub mod FirstFault
