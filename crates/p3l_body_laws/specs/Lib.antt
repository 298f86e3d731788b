pub mod Numbers
pub mod Programs
pub mod Checked
pub mod Served
