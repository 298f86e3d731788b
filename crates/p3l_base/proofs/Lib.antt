pub mod Fill
pub mod Joined
pub mod Pieces
pub mod Product
pub mod Result
pub mod Unique
pub mod Walk
