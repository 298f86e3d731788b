-- The piece at the front of a text.
use Rattle.std.specs.Prelude.{◌≡◌, ℕ, Bool, false, List, [], ◌∷◌, ◌++◌, is_some}
use Rattle.p3l_lexer.specs.declared.token.Piece.{Piece}
use Rattle.p3l_lexer.specs.Mark.{punctuation_of}
use Rattle.p3l_lexer.specs.Token.{IsCut}

-- the next byte, if there is one, is none of these
abbrev pub Ends : (ℕ → Bool) → List ℕ → Type 0
Ends test [] = Unit {0}
Ends test (byte ∷ rest) = test byte ≡ false

-- the first two bytes are a mark
unfoldable pub begins_with_pair : List ℕ → Bool
begins_with_pair (first ∷ second ∷ rest) = is_some (punctuation_of (first ∷ second ∷ []))
begins_with_pair text = false

-- the bytes are their longest piece and the rest
pub record CutsPiece (bytes text rest : List ℕ) : Type 0 where
  pub whole : bytes ≡ text ++ rest
  pub piece : Piece
  pub cut : IsCut piece text rest
