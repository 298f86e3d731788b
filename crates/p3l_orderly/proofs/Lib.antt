pub mod WalkLaw
pub mod WalkSteps
pub mod RootLaw
pub mod SavedSteps
pub mod FewTags
pub mod SoundLaw
