-- Results of the units of a plan.
use Rattle.std.proofs.Common.{◌≡◌, ℕ, ℤ, zero, suc, ◌+◌, ◌-◌, ◌*◌, ◌/◌, ◌^◌, ◌<◌, ◌≤◌, Result, Ok, Err, inl, List, [], ◌++◌, take, drop, length, map, refl, arith, ap, sym, ◌∙◌, length-take, length-drop}
use Rattle.std.proofs.Math.Nat.{add-mul, mul_assoc, suc-mul}
use Rattle.std.proofs.lemmas.List.{take-append-drop}
use Rattle.p3l_base.specs.Memory.{IfGiven, IfGivenOr}
use Rattle.p3l_base.specs.declared.NoMemory.{NoMemory}
use Rattle.p3l_base.specs.declared.outcome.Outcome.{Outcome}
use Rattle.p3l_base.specs.declared.outcome.Outcome.TheVariants.{Value, Trapped}
use Rattle.p3l_skel.specs.Fold.{combined}
use Rattle.p3l_skel.specs.Item.{elements, on_value, pieces}
use Rattle.p3l_scan.specs.Row.{in_row, with_next}
use Rattle.p3l_scan.specs.Scan.{in_words, merged, scan}
use Rattle.p3l_scan.specs.Step.{merged_halves, step_leaf}
use Rattle.p3l_scan.specs.laws.Powers.{grown, power_pos, whole_words}
use Rattle.p3l_scan.proofs.Leaves.{first-step, later-step}
use Rattle.p3l_scan.proofs.Merging.{elements-are, elements-count}
use Rattle.p3l_scan.proofs.Scans.{Combines}
use Rattle.p3l_scan.proofs.Sized.{flat, flat-append, sized-drop, sized-take}

module _ (elem : ℕ) (some : 0 < elem) (operator : List ℤ → Outcome) (keeps : Combines elem operator) where
  pub first-leaf : (n : ℕ) (block : List ℤ) → length block ≡ n * elem →
      in_words (scan operator (elements elem block)) ≡ step_leaf elem operator 2 block
  first-leaf n block e =
      let are = elements-are n elem block some e in
      sym (ap (step_leaf elem operator 2) (sym are.0) ∙ first-step elem some operator keeps (elements elem block) are.1)

  pub later-leaf : (home n : ℕ) (block : List ℤ) → 2 < home → 1 ≤ n → length block ≡ 2 * (n * elem) →
      in_words (merged_halves operator (elements elem block)) ≡ step_leaf elem operator home block
  later-leaf home n block late some_n e =
      let all : List (List ℤ) = elements elem block in
      let whole : length block ≡ (n + n) * elem = e ∙ omega (arith, add-mul n n elem) in
      let are = elements-are (n + n) elem block some whole in
      let count : length all ≡ n + n = elements-count (n + n) elem block some whole in
      let half : length all / 2 ≡ n = omega (arith, count) in
      let front : length (take n all) ≡ n = omega (arith, count, length-take n all) in
      let back : length (drop n all) ≡ n = omega (arith, count, length-drop n all) in
      let words : flat (take n all) ++ flat (drop n all) ≡ block =
      sym (flat-append (take n all) (drop n all)) ∙ ap flat (take-append-drop n all) ∙ are.0 in
      ap (λ m. in_words (merged operator (take m all) (drop m all))) half
      ∙ sym (ap (step_leaf elem operator home) (sym words)
      ∙ later-step elem some operator keeps home n (take n all) (drop n all) late some_n front back (sized-take elem n all are.1)
      (sized-drop elem n all are.1))

-- the words of a block of a later stage
pub halves-of : (stage size elem words len : ℕ) → 0 < stage → words ≡ size * elem → len ≡ 2 ^ stage * words →
    len ≡ 2 * (2 ^ (stage - 1) * size * elem)
halves-of stage size elem words len later is e =
    let before : suc (stage - 1) ≡ stage = omega (arith, later) in
    e ∙ ap (λ k. 2 ^ k * words) (sym before) ∙ sym (grown (stage - 1) words)
    ∙ ap (λ z. 2 * z) (ap (λ w. 2 ^ (stage - 1) * w) is ∙ sym (mul_assoc (2 ^ (stage - 1)) size elem))

on-itself : (x : Outcome) → on_value (λ words. Value words) x ≡ x
on-itself (Value words) = refl
on-itself (Trapped trap) = refl

pair-is : (one other : Outcome) → combined (λ words. Value words) one other ≡ with_next one other
pair-is (Trapped trap) other = refl
pair-is (Value v) (Trapped trap) = refl
pair-is (Value v) (Value w) = refl

-- two outcomes paired are a row
pub paired-row : (both one other : Outcome) →
    ((operator : List ℤ → Outcome) → on_value operator both ≡ combined operator one other) → both ≡ with_next one other
paired-row both one other h = sym (on-itself both) ∙ h (λ words. Value words) ∙ pair-is one other

-- a row of blocks begins with the first
pub row-step : (f : List ℤ → Outcome) (n size : ℕ) (words : List ℤ) → 0 < n →
    in_row (map f (pieces n size words)) ≡ with_next (f (take size words)) (in_row (map f (pieces (n - 1) size (drop size words))))
unfolding in_row
row-step f zero size words l = absurd (omega arith)
row-step f (suc n) size words l =
    let e : n ≡ suc n - 1 = omega arith in
    ap (λ k. with_next (f (take size words)) (in_row (map f (pieces k size (drop size words))))) e

pub row-none : (f : List ℤ → Outcome) (n size : ℕ) (words : List ℤ) → n ≤ 0 → Value [] ≡ in_row (map f (pieces n size words))
unfolding in_row
row-none f zero size words l = refl
row-none f (suc n) size words l = absurd (omega arith)

times-low : (a b : ℕ) → 0 < a → b ≤ a * b
times-low (suc a) b l = omega (arith, suc-mul a b)
times-low zero b l = absurd (omega arith)

-- a block has no more words than all together
pub block-small : (d s words : ℕ) → s ≤ d → 2 ^ d * words ≤ 65536 → 2 ^ s * words ≤ 65536
block-small d s words l small =
    let low : 2 ^ s * words ≤ 2 ^ (d - s) * (2 ^ s * words) = times-low (2 ^ (d - s)) (2 ^ s * words) (power_pos (d - s)) in
    omega (arith, low, whole_words d s words l, small)

-- two outcomes that were paired are a row, unless a request for memory was refused
pub given-row : (want : Type 0) (r : Result Outcome NoMemory) (one other : Outcome) →
    IfGiven r (λ both. (operator : List ℤ → Outcome) → on_value operator both ≡ combined operator one other) → (row : Outcome) →
    with_next one other ≡ row → IfGivenOr r (λ outcome. outcome ≡ row) want
given-row want (Ok both) one other h row e = paired-row both one other h ∙ e
given-row want (Err x) one other refused row e = inl refused

-- an outcome that is given is any that equals it
pub given-same : (want : Type 0) (r : Result Outcome NoMemory) (x y : Outcome) → x ≡ y → IfGivenOr r (λ o. o ≡ x) want →
    IfGivenOr r (λ o. o ≡ y) want
given-same want (Ok o) x y same is = is ∙ same
given-same want (Err e) x y same wants = wants
