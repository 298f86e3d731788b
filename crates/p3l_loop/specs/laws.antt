pub mod HeldLaw
pub mod ViewLaw
pub mod LoopLaw
pub mod LoopTyping
pub mod LoopFound
pub mod LoopWidths
