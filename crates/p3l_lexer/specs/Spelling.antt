-- The tokens of a text in order, without their positions.
use Rattle.std.specs.Prelude.{◌≡◌, ℕ, Bool, ◌&&◌, ◌||◌, List, [], ◌∷◌, ◌++◌, is_some, nat_eq, bytes_eq, slice_index, if◌then◌else◌}
use Rattle.p3l_lexer.specs.declared.token.Lexeme.{Lexeme}
use Rattle.p3l_lexer.specs.declared.token.Lexeme.TheVariants as lexemes
use Rattle.p3l_lexer.specs.declared.token.Piece.{Piece}
use Rattle.p3l_lexer.specs.declared.token.Piece.TheVariants as pieces
use Rattle.p3l_lexer.specs.Mark.{punctuation_of}
use Rattle.p3l_lexer.specs.Piece.{is_word_byte}
use Rattle.p3l_lexer.specs.Token.{Chunk, IsCutInto}

-- the token that a piece is, if it is one
abbrev pub lexeme_in : Piece → List Lexeme
lexeme_in pieces.Gap = []
lexeme_in (pieces.Token lexeme) = lexeme ∷ []

abbrev pub lexemes_in : List Chunk → List Lexeme
lexemes_in [] = []
lexemes_in (chunk ∷ chunks) = lexeme_in chunk.piece ++ lexemes_in chunks

-- the bytes are written with these tokens in order
pub record HasLexemes (bytes : List ℕ) (lexemes : List Lexeme) : Type 0 where
  pub chunks : List Chunk
  pub cut : IsCutInto bytes chunks
  pub lexemes_are : lexemes ≡ lexemes_in chunks

-- a name, a number, a keyword or punctuation
abbrev pub IsSound : Lexeme → Type 0
IsSound (lexemes.Faulty fault) = ⊥
IsSound lexeme = Unit {0}

-- with this byte after it a token would go on
unfoldable pub goes_on : List ℕ → ℕ → Bool
goes_on text byte =
    if is_word_byte (slice_index text 0) then is_word_byte byte else
    (is_some (punctuation_of (text ++ byte ∷ [])) || (bytes_eq text (47 ∷ []) && (nat_eq byte 47 || nat_eq byte 42)))
