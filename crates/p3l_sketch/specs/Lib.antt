pub mod OneNode
pub mod OneNodeLaws
pub mod Refusing
