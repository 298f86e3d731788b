pub mod Tree
pub mod Round
pub mod TimedLaw
pub mod FollowLaw
pub mod Keeping
