pub mod Helper
pub mod Syntax
pub mod Machine
pub mod Translate
pub mod Nesting
pub mod Temps
pub mod Condition
pub mod Checked
