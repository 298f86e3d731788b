pub mod Below
pub mod Gaps
pub mod Numbers
pub mod Picking
pub mod Reading
pub mod PicksLaw
