-- A text and its tokens, each the longest there is.
use Rattle.std.specs.Prelude.{◌≡◌, ℕ, List, [], ◌∷◌, ◌++◌, Some, None}
use Rattle.p3l_ast.specs.declared.position.Pos.{Pos}
use Rattle.p3l_lexer.specs.declared.token.Piece.{Piece}
use Rattle.p3l_lexer.specs.declared.token.Piece.TheVariants as pieces
use Rattle.p3l_lexer.specs.declared.token.TextToken.{TextToken}
use Rattle.p3l_lexer.specs.Piece.{piece_of}
use Rattle.p3l_lexer.specs.Position.{position_after}

-- no piece that goes on with what follows is longer
abbrev pub IsLongest : List ℕ → List ℕ → Type 0
IsLongest text rest = (byte : ℕ) (more others : List ℕ) → rest ≡ byte ∷ more ++ others → piece_of (text ++ byte ∷ more) ≡ None

-- the piece at the front, and what follows it
pub record IsCut (piece : Piece) (text rest : List ℕ) : Type 0 where
  pub is_piece : piece_of text ≡ Some piece
  pub longest : IsLongest text rest

-- a piece and its bytes
pub record Chunk : Type 0 where
  pub piece : Piece
  pub text : List ℕ

-- the bytes cut into pieces, each the longest at its place
abbrev pub IsCutInto : List ℕ → List Chunk → Type 0
IsCutInto bytes [] = bytes ≡ []
IsCutInto bytes (chunk ∷ chunks) = (rest : List ℕ) × (bytes ≡ chunk.text ++ rest) × IsCut chunk.piece chunk.text rest × IsCutInto rest chunks

-- the token that a piece is, if it is one
abbrev pub token_at : Pos → Piece → List TextToken
token_at at pieces.Gap = []
token_at at (pieces.Token lexeme) = record { lexeme = lexeme; at = at } ∷ []

-- the tokens among the pieces after some bytes, with their positions
abbrev pub tokens_after : List ℕ → List Chunk → List TextToken
tokens_after before [] = []
tokens_after before (chunk ∷ chunks) = token_at (position_after before) chunk.piece ++ tokens_after (before ++ chunk.text) chunks

-- the tokens of the bytes
pub record IsTokens (bytes : List ℕ) (tokens : List TextToken) : Type 0 where
  pub chunks : List Chunk
  pub cut : IsCutInto bytes chunks
  pub tokens_are : tokens ≡ tokens_after [] chunks
