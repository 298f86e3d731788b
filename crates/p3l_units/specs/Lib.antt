pub mod Table
pub mod laws
