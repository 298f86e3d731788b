pub mod ViewLaw
pub mod FarmLaw
pub mod FarmTyping
pub mod FarmFound
pub mod FarmWidths
