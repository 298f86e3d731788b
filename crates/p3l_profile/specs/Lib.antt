pub mod Notes
pub mod Greatest
pub mod Text
pub mod Law
