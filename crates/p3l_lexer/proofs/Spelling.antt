-- A text is written by putting tokens one after another.
use Rattle.std.proofs.Common.{◌≡◌, cond, inl, inr, ℕ, Bool, true, false, List, [], ◌∷◌, ◌++◌, Option, Some, None, refl, sym, ap, ◌∙◌, subst, arith}
use Rattle.std.specs.Prelude.{nat_eq, is_some, map}
use Rattle.std.specs.List.{list_all}
use Rattle.std.proofs.lemmas.Bool.Decides.{nat_tests}
use Rattle.p3l_ast.specs.declared.refusal.Fault.TheVariants.{BadToken}
use Rattle.p3l_ast.specs.declared.expression.BinOp.{BinOp}
use Rattle.p3l_ast.specs.declared.expression.BinOp.TheVariants.{Or}
use Rattle.p3l_ast.specs.Notation.{sign_of, operator_of}
use Rattle.p3l_lexer.specs.declared.mark.Mark.{Mark}
use Rattle.p3l_lexer.specs.declared.mark.Mark.TheVariants.{Seq, Operator}
use Rattle.p3l_lexer.specs.declared.token.Lexeme.{Lexeme}
use Rattle.p3l_lexer.specs.declared.token.Lexeme.TheVariants as lexemes
use Rattle.p3l_lexer.specs.declared.token.Piece.{Piece}
use Rattle.p3l_lexer.specs.declared.token.Piece.TheVariants as pieces
use Rattle.p3l_lexer.specs.declared.token.TextToken.{TextToken}
use Rattle.p3l_lexer.specs.Mark.{mark_text, keyword_of, punctuation_of}
use Rattle.p3l_lexer.specs.Piece.{is_blank, is_word_byte, word_or_keyword, sign_or_byte, after_close, block_of, slash_of, piece_of}
use Rattle.p3l_lexer.specs.Position.{is_no_line_end, position_after}
use Rattle.p3l_lexer.specs.Token.{IsLongest, Chunk, token_at, tokens_after, IsTokens}
use Rattle.p3l_lexer.specs.Cut.{Ends, begins_with_pair}
use Rattle.p3l_lexer.specs.Spelling.{lexeme_in, lexemes_in, HasLexemes, IsSound, goes_on}
use Rattle.p3l_lexer.proofs.Pieces.{piece_of-no_run, piece_of-slash, piece_of-other, run_ends, punctuation_of-longer}
use Rattle.p3l_lexer.proofs.Cutting.{head_is, pair_longest, one_longest, slash_longest}
use Rattle.p3l_lexer.proofs.Unique.{chunks_same}
use Rattle.p3l_lexer.proofs.Truths.{or_cases, or_false_left, or_false_right, nat_true}

-- each operator is written as its sign
piece_of-operator : (op : BinOp) → piece_of (sign_of op) ≡ Some (pieces.Token (lexemes.Sign (Operator op)))
unfolding piece_of sign_or_byte slash_of punctuation_of operator_of
piece_of-operator Or = refl
piece_of-operator _ = refl

-- each mark is written as its text
pub piece_of-mark : (mark : Mark) → piece_of (mark_text mark) ≡ Some (pieces.Token (lexemes.Sign mark))
unfolding piece_of word_or_keyword sign_or_byte slash_of keyword_of punctuation_of operator_of
piece_of-mark (Operator op) = piece_of-operator op
piece_of-mark Seq = refl
piece_of-mark _ = refl

-- the next byte fails a weaker test too
ends_by : (p q : ℕ → Bool) (rest : List ℕ) → ((b : ℕ) → p b ≡ false → q b ≡ false) → Ends p rest → Ends q rest
ends_by p q [] weaker h = tt
ends_by p q (b ∷ rest) weaker h = weaker b h

run_apart : (first : ℕ) (tail rest : List ℕ) → is_word_byte first ≡ true → Ends (goes_on (first ∷ tail)) rest → IsLongest (first ∷ tail) rest
unfolding goes_on
run_apart first tail rest w e byte more others q =
    let h : Ends is_word_byte rest = ends_by (goes_on (first ∷ tail)) is_word_byte rest (λ b k. rw w at k) e in
    piece_of-no_run first (tail ++ byte ∷ more) w (run_ends is_word_byte tail more byte (head_is is_word_byte rest others more byte h q))

one_apart : (a : ℕ) (rest : List ℕ) → is_word_byte a ≡ false → nat_eq a 47 ≡ false → Ends (goes_on (a ∷ [])) rest → begins_with_pair (a ∷ rest) ≡ false
unfolding goes_on begins_with_pair
one_apart a [] w s e = refl
one_apart a (b ∷ rest) w s e = or_false_left _ _ (rw w at e)

slash_apart : (rest : List ℕ) → Ends (goes_on (47 ∷ [])) rest → IsLongest (47 ∷ []) rest
unfolding goes_on
slash_apart rest e =
    slash_longest rest
    (ends_by (goes_on (47 ∷ [])) (λ b. nat_eq b 47) rest (λ b k. or_false_left _ _ (or_false_right (is_some (punctuation_of (47 ∷ b ∷ []))) _ k)) e)
    (ends_by (goes_on (47 ∷ [])) (λ b. nat_eq b 42) rest (λ b k. or_false_right (nat_eq b 47) _ (or_false_right (is_some (punctuation_of (47 ∷ b ∷ []))) _ k)) e)

no_comment : (second : ℕ) (body : List ℕ) (lexeme : Lexeme) → IsSound lexeme → slash_of (47 ∷ second ∷ body) ≡ Some (pieces.Token lexeme) → ⊥
unfolding slash_of block_of
no_comment second body lexeme sound h = go (nat_eq second 47) (nat_eq second 42) (list_all is_no_line_end body) (after_close body) h
  where
    by : (rest : Option (List ℕ)) → block_of rest ≡ Some (pieces.Token lexeme) → ⊥
    by None e = let q : lexeme ≡ lexemes.Faulty BadToken = cc in subst IsSound q sound
    by (Some []) e = cc
    by (Some (b ∷ rest)) e = cc

    go : (s t all : Bool) (rest : Option (List ℕ)) → cond s (cond all (Some pieces.Gap) None) (cond t (block_of rest) None) ≡ Some (pieces.Token lexeme) → ⊥
    go true t true rest e = cc
    go true t false rest e = cc
    go false true all rest e = by rest e
    go false false all rest e = cc

other_apart : (a : ℕ) (tail rest : List ℕ) (lexeme : Lexeme) → is_word_byte a ≡ false → nat_eq a 47 ≡ false → IsSound lexeme → sign_or_byte (punctuation_of (a ∷ tail)) (a ∷ tail) ≡ Some (pieces.Token lexeme) → Ends (goes_on (a ∷ tail)) rest → IsLongest (a ∷ tail) rest
unfolding sign_or_byte
other_apart a [] rest lexeme w s sound h e = one_longest a rest w s (one_apart a rest w s e)
other_apart a (b ∷ []) rest lexeme w s sound h e = pair_longest a b rest w s
other_apart a (b ∷ c ∷ tail) rest lexeme w s sound h e = absurd (let k = ap (λ m. sign_or_byte m (a ∷ b ∷ c ∷ tail)) (punctuation_of-longer a b c tail) in cc)

-- a token ends where the next byte does not go on with it
pub apart : (text rest : List ℕ) (lexeme : Lexeme) → piece_of text ≡ Some (pieces.Token lexeme) → IsSound lexeme → Ends (goes_on text) rest → IsLongest text rest
unfolding piece_of
apart [] rest lexeme h sound e = absurd cc
apart (first ∷ tail) rest lexeme h sound e = go (is_word_byte first) (nat_eq first 47) refl refl
  where
    slash : (a : ℕ) (tail : List ℕ) → a ≡ 47 → piece_of (a ∷ tail) ≡ Some (pieces.Token lexeme) → Ends (goes_on (a ∷ tail)) rest → IsLongest (a ∷ tail) rest
    slash a [] p k e = rw p (slash_apart rest (rw p at e))
    slash a (b ∷ tail) p k e = absurd (no_comment b tail lexeme sound (sym (piece_of-slash (b ∷ tail)) ∙ (rw p at k)))

    go : (w s : Bool) → is_word_byte first ≡ w → nat_eq first 47 ≡ s → IsLongest (first ∷ tail) rest
    go true s p q = run_apart first tail rest p e
    go false true p q = slash first tail (grind (arith, nat_tests)) h e
    go false false p q = other_apart first tail rest lexeme p q sound (sym (piece_of-other first tail p q) ∙ h) e

pub no_lexemes : HasLexemes [] []
no_lexemes = record { chunks = []; cut = refl; lexemes_are = refl }

-- a blank in front changes nothing
by_blank : (P : ℕ → Type 0) (b : ℕ) → is_blank b ≡ true → P 32 → P 9 → P 13 → P 10 → P b
by_blank P b h space tab return feed =
    elim (or_cases (nat_eq b 32) _ h) [
      | inl e ↦ subst P (sym (nat_true b 32 e)) space
      | inr k ↦ elim (or_cases (nat_eq b 9) _ k) [
        | inl e ↦ subst P (sym (nat_true b 9 e)) tab
        | inr l ↦ elim (or_cases (nat_eq b 13) _ l) [
          | inl e ↦ subst P (sym (nat_true b 13 e)) return
          | inr e ↦ subst P (sym (nat_true b 10 e)) feed
        ]
      ]
    ]

Blanks : ℕ → Type 0
Blanks b = (piece_of (b ∷ []) ≡ Some pieces.Gap) × ((rest : List ℕ) → IsLongest (b ∷ []) rest)

no_pair : (b : ℕ) → is_word_byte b ≡ false → nat_eq b 47 ≡ false → ((c : ℕ) → is_some (punctuation_of (b ∷ c ∷ [])) ≡ false) → (rest : List ℕ) → IsLongest (b ∷ []) rest
unfolding begins_with_pair
no_pair b w s none [] byte more others q = absurd cc
no_pair b w s none (c ∷ rest) byte more others q = one_longest b (c ∷ rest) w s (none c) byte more others q

blank_is : (b : ℕ) → is_blank b ≡ true → Blanks b
unfolding Blanks piece_of sign_or_byte punctuation_of operator_of
blank_is b h =
    by_blank Blanks b h
    (refl, no_pair 32 refl refl (λ c. refl))
    (refl, no_pair 9 refl refl (λ c. refl))
    (refl, no_pair 13 refl refl (λ c. refl))
    (refl, no_pair 10 refl refl (λ c. refl))

pub blank_first : (b : ℕ) (rest : List ℕ) (lexemes : List Lexeme) → is_blank b ≡ true → HasLexemes rest lexemes → HasLexemes (b ∷ rest) lexemes
unfolding Blanks
blank_first b rest lexemes p h = let blank = blank_is b p in record {
  chunks = record { piece = pieces.Gap; text = b ∷ [] } ∷ h.chunks;
  cut = (rest, refl, record { is_piece = blank.0; longest = blank.1 rest }, h.cut);
  lexemes_are = h.lexemes_are;
}

-- a token in front is the first
pub lexeme_first : (text rest : List ℕ) (lexeme : Lexeme) (lexemes : List Lexeme) → piece_of text ≡ Some (pieces.Token lexeme) → IsSound lexeme → Ends (goes_on text) rest → HasLexemes rest lexemes → HasLexemes (text ++ rest) (lexeme ∷ lexemes)
lexeme_first text rest lexeme lexemes p sound e h = record {
  chunks = record { piece = pieces.Token lexeme; text = text } ∷ h.chunks;
  cut = (rest, refl, record { is_piece = p; longest = apart text rest lexeme p sound e }, h.cut);
  lexemes_are = ap (λ x. lexeme ∷ x) h.lexemes_are;
}

-- the tokens of a text are those that it is written with
lexemes_of_tokens : (before : List ℕ) (chunks : List Chunk) → map (λ t. t.lexeme) (tokens_after before chunks) ≡ lexemes_in chunks
lexemes_of_tokens before [] = refl
lexemes_of_tokens before (chunk ∷ chunks) = go chunk.piece (lexemes_of_tokens (before ++ chunk.text) chunks)
  where
    go : (piece : Piece) → map (λ t. t.lexeme) (tokens_after (before ++ chunk.text) chunks) ≡ lexemes_in chunks → map (λ t. t.lexeme) (token_at (position_after before) piece ++ tokens_after (before ++ chunk.text) chunks) ≡ lexeme_in piece ++ lexemes_in chunks
    go pieces.Gap e = e
    go (pieces.Token lexeme) e = ap (λ x. lexeme ∷ x) e

pub tokens_have : (bytes : List ℕ) (tokens : List TextToken) (lexemes : List Lexeme) → IsTokens bytes tokens → HasLexemes bytes lexemes → map (λ t. t.lexeme) tokens ≡ lexemes
tokens_have bytes tokens lexemes p q =
    ap (map (λ t. t.lexeme)) p.tokens_are ∙ lexemes_of_tokens [] p.chunks ∙ ap lexemes_in (chunks_same bytes p.chunks q.chunks p.cut q.cut) ∙ sym q.lexemes_are

-- with positions put in, what a text is written with are its tokens
pub tokens_of : (bytes : List ℕ) (lexemes : List Lexeme) → HasLexemes bytes lexemes → (tokens : List TextToken) × IsTokens bytes tokens × (map (λ t. t.lexeme) tokens ≡ lexemes)
tokens_of bytes lexemes h = (
  tokens_after [] h.chunks,
  record { chunks = h.chunks; cut = h.cut; tokens_are = refl },
  lexemes_of_tokens [] h.chunks ∙ sym h.lexemes_are,
)
