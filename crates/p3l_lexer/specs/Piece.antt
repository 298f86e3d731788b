-- The kind of a whole text: one token, one comment, one blank, or none of these.
use Rattle.std.specs.Prelude.{ℕ, ◌+◌, ◌-◌, ◌*◌, ◌^◌, Bool, not, ◌&&◌, ◌||◌, List, [], ◌∷◌, length, Option, Some, None, fold, nat_eq, nat_le, nat_lt, pos, slice_index, if◌then◌else◌}
use Rattle.std.specs.List.{list_all}
use Rattle.p3l_ast.specs.declared.refusal.Fault.TheVariants.{BadByte, BadToken, NumberTooBig, NameTooLong}
use Rattle.p3l_lexer.specs.declared.mark.Mark.{Mark}
use Rattle.p3l_lexer.specs.declared.token.Lexeme.{Lexeme}
use Rattle.p3l_lexer.specs.declared.token.Lexeme.TheVariants.{Word, Digits, Sign, Faulty}
use Rattle.p3l_lexer.specs.declared.token.Piece.{Piece}
use Rattle.p3l_lexer.specs.declared.token.Piece.TheVariants.{Gap, Token}
use Rattle.p3l_lexer.specs.Mark.{keyword_of, punctuation_of}
use Rattle.p3l_lexer.specs.Position.{is_no_line_end}

-- space, tab, carriage return or line feed
abbrev pub is_blank : ℕ → Bool
is_blank byte = nat_eq byte 32 || (nat_eq byte 9 || (nat_eq byte 13 || nat_eq byte 10))

abbrev pub is_digit : ℕ → Bool
is_digit byte = nat_le 48 byte && nat_le byte 57

-- a letter or `_`
abbrev pub is_letter : ℕ → Bool
is_letter byte = nat_eq byte 95 || ((nat_le 97 byte && nat_le byte 122) || (nat_le 65 byte && nat_le byte 90))

abbrev pub is_word_byte : ℕ → Bool
is_word_byte byte = is_letter byte || is_digit byte

-- the number of decimal digits
abbrev pub value_of : List ℕ → ℕ
value_of digits = fold (λ value digit. value * 10 + (digit - 48)) 0 digits

-- one digit, or several digits that do not begin with 0
abbrev pub is_number : List ℕ → Bool
is_number text = list_all is_digit text && (nat_eq (length text) 1 || not (nat_eq (slice_index text 0) 48))

-- a run that begins with a letter
abbrev pub word_of : List ℕ → Lexeme
word_of text = if nat_le (length text) 64 then Word text else Faulty NameTooLong

-- a keyword is no name
unfoldable pub word_or_keyword : Option Mark → List ℕ → Lexeme
word_or_keyword None text = word_of text
word_or_keyword (Some mark) text = Sign mark

-- a run that begins with a digit
unfoldable pub number_of : List ℕ → Lexeme
number_of text =
    if is_number text then (if nat_lt (value_of text) (2 ^ 63) then Digits (pos (value_of text)) else Faulty NumberTooBig) else Faulty BadToken

-- punctuation, or else a single byte
unfoldable pub sign_or_byte : Option Mark → List ℕ → Option Piece
sign_or_byte (Some mark) text = Some (Token (Sign mark))
sign_or_byte None (byte ∷ []) =
    Some (if is_blank byte then Gap else (if nat_eq byte 36 then Token (Faulty BadToken) else Token (Faulty BadByte)))
sign_or_byte None _ = None

-- the text after the first `*/`
unfoldable pub after_close : List ℕ → Option (List ℕ)
after_close [] = None
after_close (first ∷ []) = None
after_close (first ∷ second ∷ rest) =
    if nat_eq first 42 && nat_eq second 47 then Some rest else after_close (second ∷ rest)

-- a comment from `/*` on: closed at its end, or not at all
unfoldable pub block_of : Option (List ℕ) → Option Piece
block_of None = Some (Token (Faulty BadToken))
block_of (Some []) = Some Gap
block_of (Some (byte ∷ rest)) = None

-- a text that begins with `/`
unfoldable pub slash_of : List ℕ → Option Piece
slash_of (slash ∷ second ∷ body) =
    if nat_eq second 47 then (if list_all is_no_line_end body then Some Gap else None) else
    (if nat_eq second 42 then block_of (after_close body) else None)
slash_of text = sign_or_byte (punctuation_of text) text

-- the kind of the whole text, if it is one piece
unfoldable pub piece_of : List ℕ → Option Piece
piece_of [] = None
piece_of (first ∷ rest) =
    if is_word_byte first then
    (if list_all is_word_byte rest then
    Some (Token (if is_letter first then word_or_keyword (keyword_of (first ∷ rest)) (first ∷ rest) else number_of (first ∷ rest)))
    else None)
    else (if nat_eq first 47 then slash_of (first ∷ rest) else sign_or_byte (punctuation_of (first ∷ rest)) (first ∷ rest))
