pub mod OneNode
