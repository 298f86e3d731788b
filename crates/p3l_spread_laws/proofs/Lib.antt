pub mod SpreadLaw
pub mod Taking
pub mod WireLaw
pub mod WireTaking
pub mod Hand
