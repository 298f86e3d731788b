-- Positions go on byte by byte.
use Rattle.std.proofs.Common.{◌≡◌, ℕ, ◌+◌, ◌<◌, ◌≤◌, Bool, true, false, cond, not, List, [], ◌∷◌, ◌++◌, length, take, get_or, reverse, sym, ap, ◌∙◌, arith, append_assoc, add-one}
use Rattle.std.specs.Prelude.{count_by}
use Rattle.std.specs.List.{prefix_len}
use Rattle.std.proofs.lemmas.List.{reverse-append, length-reverse}
use Rattle.std.proofs.lemmas.List.Sums.{sum_by_push, count_by-le-length, prefix_len-le-length}
use Rattle.std.proofs.Math.Seq.{take-suc}
use Rattle.p3l_ast.specs.declared.position.Pos.{Pos}
use Rattle.p3l_lexer.specs.Position.{is_line_end, is_no_line_end, position_after, moved}

by_line : (b : Bool) (count after : ℕ) →
    (let P : Pos = record { line = 1 + (count + cond b 1 0); col = 1 + cond (not b) (1 + after) 0 } in P) ≡
    cond b (record { line = 1 + count + 1; col = 1 }) (record { line = 1 + count; col = 1 + after + 1 })
by_line true count after = let e : 1 + (count + 1) ≡ 1 + count + 1 = omega arith in λ i. record { line = e i; col = 1 }
by_line false count after =
    let e : 1 + (count + 0) ≡ 1 + count = omega arith in
    let f : 1 + (1 + after) ≡ 1 + after + 1 = omega arith in
    λ i. record { line = e i; col = f i }

pub position_after-snoc : (before : List ℕ) (byte : ℕ) → position_after (before ++ byte ∷ []) ≡ moved (position_after before) byte
unfolding position_after
position_after-snoc before byte =
    let lines : count_by is_line_end (before ++ byte ∷ []) ≡ count_by is_line_end before + cond (is_line_end byte) 1 0 = sum_by_push _ before byte in
    let columns : prefix_len is_no_line_end (reverse (before ++ byte ∷ [])) ≡ prefix_len is_no_line_end (byte ∷ reverse before) = ap (prefix_len is_no_line_end) (reverse-append before (byte ∷ [])) in
    let e : position_after (before ++ byte ∷ []) ≡ record { line = 1 + (count_by is_line_end before + cond (is_line_end byte) 1 0); col = 1 + prefix_len is_no_line_end (byte ∷ reverse before) } = λ i. record { line = 1 + lines i; col = 1 + columns i } in
    e ∙ by_line (is_line_end byte) (count_by is_line_end before) (prefix_len is_no_line_end (reverse before))

-- a position is not farther than there are bytes
pub line_bound : (before : List ℕ) → (position_after before).line ≤ 1 + length before
unfolding position_after
line_bound before = omega (arith, count_by-le-length is_line_end before)

pub column_bound : (before : List ℕ) → (position_after before).col ≤ 1 + length before
unfolding position_after
column_bound before = omega (arith, prefix_len-le-length is_no_line_end (reverse before), length-reverse before)

-- one step of a loop over the bytes
pub position_more : (before bytes : List ℕ) (i : ℕ) → i < length bytes → position_after (before ++ take (i + 1) bytes) ≡ moved (position_after (before ++ take i bytes)) (get_or bytes i 0)
position_more before bytes i h =
    let e : take (i + 1) bytes ≡ take i bytes ++ get_or bytes i 0 ∷ [] = rw add-one (take-suc bytes i 0 h) in
    let f : before ++ take (i + 1) bytes ≡ (before ++ take i bytes) ++ get_or bytes i 0 ∷ [] = ap (λ x. before ++ x) e ∙ sym (append_assoc before (take i bytes) (get_or bytes i 0 ∷ [])) in
    ap position_after f ∙ position_after-snoc (before ++ take i bytes) (get_or bytes i 0)
