-- The tokens of a text, one piece after another.
use Rattle.std.proofs.Common.{◌≡◌, ℕ, ◌+◌, ◌-◌, ◌<◌, ◌≤◌, ◌^◌, true, List, [], ◌∷◌, ◌++◌, length, Some, refl, sym, ap, ◌∙◌, arith, append_assoc, append-nil, length-append}
use Rattle.std.specs.Prelude.{IsSome, nat_eq}
use Rattle.std.proofs.lemmas.Bool.Decides.{nat_tests}
use Rattle.p3l_ast.specs.declared.position.Pos.{Pos}
use Rattle.p3l_lexer.specs.declared.token.Piece.{Piece}
use Rattle.p3l_lexer.specs.declared.token.TextToken.{TextToken}
use Rattle.p3l_lexer.specs.Piece.{piece_of}
use Rattle.p3l_lexer.specs.Position.{position_after}
use Rattle.p3l_lexer.specs.Token.{Chunk, IsCutInto, token_at, tokens_after, IsTokens}
use Rattle.p3l_lexer.specs.Cut.{CutsPiece}
use Rattle.p3l_lexer.proofs.Positions.{line_bound, column_bound}

-- no piece is empty
pub not_empty : (text : List ℕ) (piece : Piece) → piece_of text ≡ Some piece → 0 < length text
unfolding piece_of
not_empty [] piece h = absurd cc
not_empty (b ∷ text) piece h = omega arith

pub is_piece : (text : List ℕ) (piece : Piece) → piece_of text ≡ Some piece → IsSome (piece_of text)
is_piece text piece h = rw h refl

-- the lexer has reached a place: the text before it is read, and the rest is left
pub record Reached (text rest : List ℕ) (at : Pos) (list : List TextToken) : Type 0 where
  pub before : List ℕ
  pub whole : text ≡ before ++ rest
  pub here : at ≡ position_after before
  pub goes_on : (chunks : List Chunk) → IsCutInto rest chunks → (all : List Chunk) × IsCutInto text all × (tokens_after [] all ≡ list ++ tokens_after before chunks)

pub at_start : (text : List ℕ) (at : Pos) (list : List TextToken) → at ≡ position_after [] → list ≡ [] → Reached text text at list
at_start text at list p q = record {
  before = [];
  whole = refl;
  here = p;
  goes_on = λ chunks c. (chunks, c, rw q refl);
}

pub one_more : (text rest front after : List ℕ) (at next : Pos) (list new : List TextToken) → Reached text rest at list → CutsPiece rest front after →
    ((piece : Piece) → piece_of front ≡ Some piece → new ≡ list ++ token_at at piece) →
    ((before : List ℕ) → at ≡ position_after before → next ≡ position_after (before ++ front)) →
    Reached text after next new
one_more text rest front after at next list new r c put moves = record {
  before = r.before ++ front;
  whole = r.whole ∙ ap (λ x. r.before ++ x) c.whole ∙ sym (append_assoc r.before front after);
  here = moves r.before r.here;
  goes_on = λ chunks h.
      let chunk : Chunk = record { piece = c.piece; text = front } in
      let all = r.goes_on (chunk ∷ chunks) (after, c.whole, c.cut, h) in
      let e : list ++ (token_at at c.piece ++ tokens_after (r.before ++ front) chunks) ≡ new ++ tokens_after (r.before ++ front) chunks = sym (append_assoc list _ _) ∙ ap (λ x. x ++ tokens_after (r.before ++ front) chunks) (sym (put c.piece c.cut.is_piece)) in
      (all.0, all.1, all.2 ∙ ap (λ p. list ++ (token_at p c.piece ++ tokens_after (r.before ++ front) chunks)) (sym r.here) ∙ e);
}

pub at_end : (text rest : List ℕ) (at : Pos) (list : List TextToken) → Reached text rest at list → rest ≡ [] → IsTokens text list
at_end text rest at list r e =
    let all = r.goes_on [] e in
    record { chunks = all.0; cut = all.1; tokens_are = sym (all.2 ∙ append-nil list) }

-- the position has room for the next piece
pub line_fits : (text rest front after : List ℕ) (at : Pos) (list : List TextToken) → Reached text rest at list → CutsPiece rest front after → length text < 2 ^ 32 - 1 → at.line + length front < 2 ^ 32
line_fits text rest front after at list r c h =
    let a : at.line ≤ 1 + length r.before = rw r.here (line_bound r.before) in
    let b : length text ≡ length r.before + length rest = ap length r.whole ∙ length-append r.before rest in
    let d : length rest ≡ length front + length after = ap length c.whole ∙ length-append front after in
    omega arith

pub column_fits : (text rest front after : List ℕ) (at : Pos) (list : List TextToken) → Reached text rest at list → CutsPiece rest front after → length text < 2 ^ 32 - 1 → at.col + length front < 2 ^ 32
column_fits text rest front after at list r c h =
    let a : at.col ≤ 1 + length r.before = rw r.here (column_bound r.before) in
    let b : length text ≡ length r.before + length rest = ap length r.whole ∙ length-append r.before rest in
    let d : length rest ≡ length front + length after = ap length c.whole ∙ length-append front after in
    omega arith

pub shorter : (rest front after : List ℕ) → CutsPiece rest front after → length after < length rest
shorter rest front after c =
    let d : length rest ≡ length front + length after = ap length c.whole ∙ length-append front after in
    let s : 0 < length front = not_empty front c.piece c.cut.is_piece in
    omega arith

pub no_bytes : (rest : List ℕ) → nat_eq (length rest) 0 ≡ true → rest ≡ []
no_bytes [] h = refl
no_bytes (b ∷ rest) h = absurd (let e : 1 + length rest ≡ 0 = grind (arith, nat_tests) in omega arith)
