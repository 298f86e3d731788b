pub mod Printer
pub mod Expression
pub mod Statement
pub mod Port
pub mod Call
pub mod Module
pub mod Program
