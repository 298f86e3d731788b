-- The steps through the lines of workers.
use Rattle.std.proofs.Common.{◌≡◌, ℕ, suc, ◌+◌, ◌-◌, ◌<◌, ◌≤◌, List, [], ◌∷◌, ◌++◌, drop, length, get_or, sym, ap, ap₂, ◌∙◌, arith, append_assoc, append-nil}
use Rattle.std.proofs.Math.Seq.{drop-cons}
use Rattle.p3l_firing.specs.State.{State}
use Rattle.p3l_firing.specs.declared.token.Token.{Token}
use Rattle.p3l_template.specs.Finding.{line_of}
use Rattle.p3l_template.specs.Lines.{lines_by}
use Rattle.p3l_template.specs.Shape.{fan_slots}

-- the lines that are left, at one of them
pub lines_left : (ls : List (List Token)) (i : ℕ) (l : List Token) → i < length ls → l ≡ get_or ls i l → drop i ls ≡ l ∷ drop (i + 1) ls
lines_left ls i l b h =
    let e : suc i ≡ i + 1 = omega arith in
    drop-cons ls i l b ∙ ap₂ (λ y n. y ∷ drop n ls) (sym h) e

module _ (s : State) where
  -- the lines of the slots that are left, at one of them
  pub lines_more : (i o n w : ℕ) (inner : List (List Token)) (p line : List Token) (lines : List (List Token)) → w < n → w < length inner →
      p ≡ get_or inner w p → line ≡ line_of s (i + w) (o + w) p →
      (lines ++ line ∷ []) ++ lines_by s (fan_slots (i + (w + 1)) (o + (w + 1)) (n - (w + 1))) (drop (w + 1) inner)
      ≡ lines ++ lines_by s (fan_slots (i + w) (o + w) (n - w)) (drop w inner)
  unfolding lines_by fan_slots
  lines_more i o n w inner p line lines b c h e =
      let left : n - w ≡ suc (n - (w + 1)) = omega (arith, b) in
      let one : i + (w + 1) ≡ suc (i + w) = omega arith in
      let two : o + (w + 1) ≡ suc (o + w) = omega arith in
      append_assoc lines (line ∷ []) _
      ∙ ap₂ (λ x y. lines ++ (line ∷ lines_by s (fan_slots x y (n - (w + 1))) (drop (w + 1) inner))) one two
      ∙ ap (λ z. lines ++ (z ∷ lines_by s (fan_slots (suc (i + w)) (suc (o + w)) (n - (w + 1))) (drop (w + 1) inner))) e
      ∙ ap (λ z. lines ++ lines_by s (fan_slots (i + w) (o + w) (suc (n - (w + 1)))) z) (sym (lines_left inner w p c h))
      ∙ ap (λ m. lines ++ lines_by s (fan_slots (i + w) (o + w) m) (drop w inner)) (sym left)

  pub lines_end : (i o n w : ℕ) (rest lines : List (List Token)) → n ≤ w → lines ≡ lines ++ lines_by s (fan_slots (i + w) (o + w) (n - w)) rest
  unfolding lines_by fan_slots
  lines_end i o n w rest lines l =
      let none : n - w ≡ 0 = omega (arith, l) in
      sym (ap (λ m. lines ++ lines_by s (fan_slots (i + w) (o + w) m) rest) none ∙ append-nil lines)

  pub lines_first : (i o n : ℕ) (inner : List (List Token)) → lines_by s (fan_slots (i + 0) (o + 0) (n - 0)) (drop 0 inner) ≡ lines_by s (fan_slots i o n) inner
  lines_first i o n inner =
      let one : i + 0 ≡ i = omega arith in
      let two : o + 0 ≡ o = omega arith in
      let all : n - 0 ≡ n = omega arith in
      ap₂ (λ x y. lines_by s (fan_slots x y (n - 0)) inner) one two ∙ ap (λ m. lines_by s (fan_slots i o m) inner) all
