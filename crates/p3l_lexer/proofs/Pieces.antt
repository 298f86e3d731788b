-- Kinds of texts, each taken whole as one piece.
use Rattle.std.proofs.Common.{◌≡◌, ℕ, ◌+◌, ◌≤◌, Bool, true, false, cond, ◌&&◌, List, [], ◌∷◌, ◌++◌, length, Option, Some, None, refl, ap, arith}
use Rattle.std.specs.Prelude.{nat_eq, nat_le, bytes_eq, is_some}
use Rattle.std.specs.List.{list_all}
use Rattle.std.proofs.lemmas.Bool.Decides.{nat_tests}
use Rattle.p3l_ast.specs.declared.expression.BinOp.{BinOp}
use Rattle.p3l_ast.specs.Notation.{sign_of, operators, operator_among, operator_of}
use Rattle.p3l_lexer.specs.declared.mark.Mark.{Mark}
use Rattle.p3l_lexer.specs.declared.token.Piece.{Piece}
use Rattle.p3l_lexer.specs.declared.token.Piece.TheVariants.{Gap, Token}
use Rattle.p3l_lexer.specs.Mark.{mark_text, mark_among, punctuation, keyword_of, punctuation_of}
use Rattle.p3l_lexer.specs.Position.{is_no_line_end}
use Rattle.p3l_lexer.specs.Piece.{is_letter, is_word_byte, word_or_keyword, number_of, sign_or_byte, after_close, block_of, slash_of, piece_of}
use Rattle.p3l_lexer.proofs.Truths.{and_left, and_right, and_false}

-- the piece that a run of letters and digits is
abbrev pub run_of : ℕ → List ℕ → Piece
run_of first rest = Token (cond (is_letter first) (word_or_keyword (keyword_of (first ∷ rest)) (first ∷ rest)) (number_of (first ∷ rest)))

pub piece_of-run : (first : ℕ) (rest : List ℕ) → is_word_byte first ≡ true → list_all is_word_byte rest ≡ true → piece_of (first ∷ rest) ≡ Some (run_of first rest)
unfolding piece_of
piece_of-run first rest h all = rw (h, all) refl

pub piece_of-no_run : (first : ℕ) (rest : List ℕ) → is_word_byte first ≡ true → list_all is_word_byte rest ≡ false → piece_of (first ∷ rest) ≡ None
unfolding piece_of
piece_of-no_run first rest h all = rw (h, all) refl

pub piece_of-slash : (rest : List ℕ) → piece_of (47 ∷ rest) ≡ slash_of (47 ∷ rest)
unfolding piece_of
piece_of-slash rest = refl

pub piece_of-other : (first : ℕ) (rest : List ℕ) → is_word_byte first ≡ false → nat_eq first 47 ≡ false → piece_of (first ∷ rest) ≡ sign_or_byte (punctuation_of (first ∷ rest)) (first ∷ rest)
unfolding piece_of
piece_of-other first rest h k = rw (h, k) refl

pub slash_of-line : (body : List ℕ) → slash_of (47 ∷ 47 ∷ body) ≡ cond (list_all is_no_line_end body) (Some Gap) None
unfolding slash_of
slash_of-line body = refl

pub slash_of-block : (body : List ℕ) → slash_of (47 ∷ 42 ∷ body) ≡ block_of (after_close body)
unfolding slash_of
slash_of-block body = refl

pub slash_of-none : (second : ℕ) (body : List ℕ) → nat_eq second 47 ≡ false → nat_eq second 42 ≡ false → slash_of (47 ∷ second ∷ body) ≡ None
unfolding slash_of
slash_of-none second body h k = rw (h, k) refl

-- a text of three bytes is no mark of punctuation
longer : (x : List ℕ) (a b c : ℕ) (more : List ℕ) → nat_le (length x) 2 ≡ true → bytes_eq x (a ∷ b ∷ c ∷ more) ≡ false
longer [] a b c more h = refl
longer (x ∷ []) a b c more h = and_false (nat_eq x a) false refl
longer (x ∷ y ∷ []) a b c more h = and_false (nat_eq x a) (nat_eq y b && false) (and_false (nat_eq y b) false refl)
longer (x ∷ y ∷ z ∷ xs) a b c more h = absurd (let e : 3 + length xs ≤ 2 = grind (arith, nat_tests) in omega arith)

none_longer : (marks : List Mark) (a b c : ℕ) (more : List ℕ) → list_all (λ m. nat_le (length (mark_text m)) 2) marks ≡ true → mark_among marks (a ∷ b ∷ c ∷ more) ≡ None
none_longer [] a b c more h = refl
none_longer (m ∷ marks) a b c more h =
    let here = longer (mark_text m) a b c more (and_left _ _ h) in
    let rest = none_longer marks a b c more (and_right (nat_le (length (mark_text m)) 2) _ h) in
    rw here rest

no_operator : (ops : List BinOp) (a b c : ℕ) (more : List ℕ) → list_all (λ op. nat_le (length (sign_of op)) 2) ops ≡ true → operator_among ops (a ∷ b ∷ c ∷ more) ≡ None
no_operator [] a b c more h = refl
no_operator (op ∷ ops) a b c more h =
    let here = longer (sign_of op) a b c more (and_left _ _ h) in
    let rest = no_operator ops a b c more (and_right (nat_le (length (sign_of op)) 2) _ h) in
    rw here rest

pub punctuation_of-longer : (a b c : ℕ) (more : List ℕ) → punctuation_of (a ∷ b ∷ c ∷ more) ≡ None
unfolding punctuation_of operator_of
punctuation_of-longer a b c more =
    rw (no_operator operators a b c more refl) (none_longer punctuation a b c more refl)

pub sign_or_byte-longer : (a b c : ℕ) (more : List ℕ) → sign_or_byte (punctuation_of (a ∷ b ∷ c ∷ more)) (a ∷ b ∷ c ∷ more) ≡ None
unfolding sign_or_byte
sign_or_byte-longer a b c more = rw punctuation_of-longer refl

pub sign_or_byte-two : (a b : ℕ) → punctuation_of (a ∷ b ∷ []) ≡ None → sign_or_byte (punctuation_of (a ∷ b ∷ [])) (a ∷ b ∷ []) ≡ None
unfolding sign_or_byte
sign_or_byte-two a b h = rw h refl

-- a byte alone is always a piece
pub byte_piece : (m : Option Mark) (a : ℕ) → (piece : Piece) × (sign_or_byte m (a ∷ []) ≡ Some piece)
unfolding sign_or_byte
byte_piece (Some m) a = (_, refl)
byte_piece None a = (_, refl)

-- two bytes that are a mark are a piece
pub pair_piece : (m : Option Mark) (text : List ℕ) → is_some m ≡ true → (piece : Piece) × (sign_or_byte m text ≡ Some piece)
unfolding sign_or_byte
pair_piece (Some m) text h = (_, refl)
pair_piece None text h = absurd cc

-- a run goes no farther than its bytes do
pub run_ends : (test : ℕ → Bool) (front more : List ℕ) (byte : ℕ) → test byte ≡ false → list_all test (front ++ byte ∷ more) ≡ false
run_ends test [] more byte h = rw h refl
run_ends test (b ∷ front) more byte h = and_false (test b) _ (run_ends test front more byte h)

-- text appended to a body is appended to the rest after the first `*/`
pub after_close-append : (body rest more : List ℕ) → after_close body ≡ Some rest → after_close (body ++ more) ≡ Some (rest ++ more)
unfolding after_close
after_close-append [] rest more h = absurd cc
after_close-append (a ∷ []) rest more h = absurd cc
after_close-append (a ∷ b ∷ body) rest more h = go (nat_eq a 42 && nat_eq b 47) (after_close-append (b ∷ body) rest more) h
  where
    go : (t : Bool) → (after_close (b ∷ body) ≡ Some rest → after_close (b ∷ body ++ more) ≡ Some (rest ++ more)) → cond t (Some body) (after_close (b ∷ body)) ≡ Some rest → cond t (Some (body ++ more)) (after_close (b ∷ body ++ more)) ≡ Some (rest ++ more)
    go true later e = let q : body ≡ rest = cc in ap (λ x. Some (x ++ more)) q
    go false later e = later e
