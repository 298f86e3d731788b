pub mod Declared
pub mod Mentioned
pub mod Definite
