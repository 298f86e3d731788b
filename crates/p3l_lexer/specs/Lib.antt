pub mod Cut
pub mod Mark
pub mod Piece
pub mod Position
pub mod Spelling
pub mod Token
