pub mod Word
pub mod Table
pub mod App
pub mod Command
pub mod Wanted
pub mod Laws
