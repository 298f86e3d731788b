-- Meanings of bodies.
pub mod Operator
pub mod Valuation
pub mod Expression
pub mod Statement
pub mod Run
