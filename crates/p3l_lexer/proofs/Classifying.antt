-- Kinds of pieces, case by case as the code finds them.
use Rattle.std.proofs.Common.{◌≡◌, ◌≢◌, ℕ, ◌<◌, Bool, true, false, cond, List, [], ◌∷◌, length, drop, get_or, Option, Some, None, refl, ◌∙◌, subst, arith}
use Rattle.std.specs.Prelude.{nat_eq, IsSome}
use Rattle.std.specs.List.{list_all}
use Rattle.std.proofs.lemmas.Bool.Decides.{nat_tests}
use Rattle.p3l_lexer.specs.declared.token.Piece.TheVariants.{Gap, Token}
use Rattle.p3l_lexer.specs.Mark.{keyword_of, punctuation_of}
use Rattle.p3l_lexer.specs.Position.{is_no_line_end}
use Rattle.p3l_lexer.specs.Piece.{is_letter, is_digit, is_word_byte, word_or_keyword, number_of, sign_or_byte, after_close, block_of, slash_of, piece_of}
use Rattle.p3l_lexer.proofs.Pieces.{piece_of-run, piece_of-no_run, piece_of-slash, piece_of-other}
use Rattle.p3l_lexer.proofs.Truths.{or_left, or_right, false_true}

-- a `/` alone
pub slash_sign : (text : List ℕ) → length text ≡ 1 → slash_of text ≡ sign_or_byte (punctuation_of text) text
unfolding slash_of
slash_sign [] h = refl
slash_sign (a ∷ []) h = refl
slash_sign (a ∷ b ∷ text) h = absurd (omega arith)

-- a comment from `/*` on
pub slash_block : (text : List ℕ) → 1 < length text → get_or text 1 0 ≡ 42 → slash_of text ≡ block_of (after_close (drop 2 text))
unfolding slash_of
slash_block [] some h = absurd (omega arith)
slash_block (a ∷ []) some h = absurd (omega arith)
slash_block (a ∷ b ∷ text) some h = rw h refl

-- a comment from `//` on
pub slash_gap : (text : List ℕ) → 1 < length text → get_or text 1 0 ≢ 42 → IsSome (slash_of text) → slash_of text ≡ Some Gap
unfolding slash_of
slash_gap [] some n h = absurd (omega arith)
slash_gap (a ∷ []) some n h = absurd (omega arith)
slash_gap (a ∷ b ∷ text) some n h = go (nat_eq b 47) (nat_eq b 42) (list_all is_no_line_end text) (grind (arith, nat_tests)) h
  where
    go : (s t all : Bool) → t ≡ false → IsSome (cond s (cond all (Some Gap) None) (cond t (block_of (after_close text)) None)) → cond s (cond all (Some Gap) None) (cond t (block_of (after_close text)) None) ≡ Some Gap
    go true t true e h = refl
    go true t false e h = absurd (false_true h)
    go false true all e h = absurd cc
    go false false all e h = absurd (false_true h)

-- a closed comment ends where it is closed
pub block_gap : (rest : Option (List ℕ)) (x : List ℕ) → rest ≡ Some x → IsSome (block_of rest) → block_of rest ≡ Some Gap
unfolding block_of
block_gap None x e h = absurd cc
block_gap (Some []) x e h = refl
block_gap (Some (b ∷ y)) x e h = absurd (false_true h)

-- a piece that begins with a letter or a digit is a run
word_byte_all : (first : ℕ) (rest : List ℕ) → is_word_byte first ≡ true → IsSome (piece_of (first ∷ rest)) → list_all is_word_byte rest ≡ true
word_byte_all first rest h some = go (list_all is_word_byte rest) refl
  where
    go : (all : Bool) → list_all is_word_byte rest ≡ all → list_all is_word_byte rest ≡ true
    go true e = e
    go false e = absurd (false_true (subst IsSome (piece_of-no_run first rest h e) some))

pub run_all : (text : List ℕ) → 0 < length text → is_word_byte (get_or text 0 0) ≡ true → IsSome (piece_of text) → list_all is_word_byte text ≡ true
run_all [] some h piece = absurd (omega arith)
run_all (first ∷ rest) some h piece = rw (h, word_byte_all first rest h piece) refl

pub letter_is_word_byte : (b : ℕ) → is_letter b ≡ true → is_word_byte b ≡ true
letter_is_word_byte b h = or_left (is_letter b) (is_digit b) h

pub digit_is_word_byte : (b : ℕ) → is_digit b ≡ true → is_word_byte b ≡ true
digit_is_word_byte b h = or_right (is_letter b) (is_digit b) h

-- the token of a run that begins with a letter
pub piece_word : (text : List ℕ) → 0 < length text → is_letter (get_or text 0 0) ≡ true → IsSome (piece_of text) → piece_of text ≡ Some (Token (word_or_keyword (keyword_of text) text))
piece_word [] some h piece = absurd (omega arith)
piece_word (first ∷ rest) some h piece =
    let w = letter_is_word_byte first h in
    piece_of-run first rest w (word_byte_all first rest w piece) ∙ rw h refl

-- the token of a run that begins with a digit
pub piece_number : (text : List ℕ) → 0 < length text → is_letter (get_or text 0 0) ≡ false → is_digit (get_or text 0 0) ≡ true → IsSome (piece_of text) → piece_of text ≡ Some (Token (number_of text))
piece_number [] some h d piece = absurd (omega arith)
piece_number (first ∷ rest) some h d piece =
    let w = digit_is_word_byte first d in
    piece_of-run first rest w (word_byte_all first rest w piece) ∙ rw h refl

pub piece_slash : (text : List ℕ) → 0 < length text → get_or text 0 0 ≡ 47 → piece_of text ≡ slash_of text
piece_slash [] some h = absurd (omega arith)
piece_slash (first ∷ rest) some h = rw h (piece_of-slash rest)

pub piece_sign : (text : List ℕ) → 0 < length text → is_letter (get_or text 0 0) ≡ false → is_digit (get_or text 0 0) ≡ false → get_or text 0 0 ≢ 47 → piece_of text ≡ sign_or_byte (punctuation_of text) text
piece_sign [] some l d s = absurd (omega arith)
piece_sign (first ∷ rest) some l d s =
    let w : is_word_byte first ≡ false = rw (l, d) refl in
    let n : nat_eq first 47 ≡ false = grind (arith, nat_tests) in
    piece_of-other first rest w n
