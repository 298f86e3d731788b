pub mod Forgetting
pub mod Bodies
pub mod Checked
pub mod Alike
pub mod Laws
