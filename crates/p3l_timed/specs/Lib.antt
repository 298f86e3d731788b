pub mod Moments
pub mod Price
pub mod Due
pub mod Timed
pub mod Clock
pub mod Laws
pub mod Follow
