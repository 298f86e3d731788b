pub mod Name
pub mod Line
pub mod Text
pub mod Plain
pub mod Value
pub mod Function
pub mod Bodies
pub mod Laws
