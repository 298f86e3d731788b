pub mod Kind
pub mod Text
pub mod Answers
pub mod Agreement
pub mod laws
