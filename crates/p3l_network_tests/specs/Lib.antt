pub mod Looped
pub mod LoopedLaws
pub mod WithPart
pub mod WithPartLaws
