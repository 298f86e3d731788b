-- The merging of two halves, fold by fold.
use Rattle.std.proofs.Common.{◌≡◌, ℕ, ℤ, zero, suc, ◌+◌, ◌-◌, ◌*◌, ◌/◌, ◌<◌, ◌≤◌, Ok, Err, List, [], ◌∷◌, ◌++◌, take, drop, length, get_or, refl, arith, ap, ap₂, sym, ◌∙◌, append_assoc, append-nil, length-append, length-take, length-drop}
use Rattle.std.proofs.Math.Nat.{mul-div_cancel, suc-mul}
use Rattle.std.proofs.lemmas.List.{take_all}
use Rattle.std.proofs.Math.Seq.{drop-append_seam}
use Rattle.p3l_base.specs.declared.outcome.Outcome.{Outcome}
use Rattle.p3l_base.specs.declared.outcome.Outcome.TheVariants.{Value, Trapped}
use Rattle.p3l_base.specs.declared.outcome.Trap.{Trap}
use Rattle.p3l_skel.specs.Item.{elements}
use Rattle.p3l_skel.proofs.Elements.{elements-none, elements-step, length-pieces}
use Rattle.p3l_scan.specs.Row.{with_next}
use Rattle.p3l_scan.specs.Scan.{Scanned, before, combined_each, in_words, last_of, merged, with_front}
use Rattle.p3l_scan.proofs.Blocks.{drop-more}
use Rattle.p3l_scan.proofs.Sized.{Sized, flat, flat-append, flat-length, pieces-flat, pieces-sized}

-- whole elements
pub elements-are : (n elem : ℕ) (words : List ℤ) → 0 < elem → length words ≡ n * elem →
    (flat (elements elem words) ≡ words) × Sized elem (elements elem words)
elements-are n elem words some e =
    let count : length words / elem ≡ n = ap (λ z. z / elem) e ∙ mul-div_cancel n some in
    let long : length words ≡ length words / elem * elem = e ∙ ap (λ z. z * elem) (sym count) in
    (pieces-flat (length words / elem) elem words long, pieces-sized (length words / elem) elem words long)

pub elements-count : (n elem : ℕ) (words : List ℤ) → 0 < elem → length words ≡ n * elem → length (elements elem words) ≡ n
elements-count n elem words some e =
    length-pieces (length words / elem) elem words ∙ ap (λ z. z / elem) e ∙ mul-div_cancel n some

times-one : (a b : ℕ) → 1 ≤ a → b ≤ a * b
times-one (suc a) b l = omega (arith, suc-mul a b)
times-one zero b l = absurd (omega arith)

last-of-flat : (elem : ℕ) (xs : List (List ℤ)) → 1 ≤ length xs → Sized elem xs →
    drop (length (flat xs) - elem) (flat xs) ≡ last_of xs
last-of-flat elem [] l h = absurd (omega arith)
last-of-flat elem (x ∷ []) l h =
    let none : length (x ++ []) - elem ≡ 0 = omega (arith, length-append x [], h.0) in
    ap (λ n. drop n (x ++ [])) none ∙ append-nil x
last-of-flat elem (x ∷ (y ∷ xs)) l h =
    let rest : List ℤ = flat (y ∷ xs) in
    let many : length rest ≡ length (y ∷ xs) * elem = flat-length elem (y ∷ xs) h.1 in
    let some : elem ≤ length rest = omega (arith, many, length-append y (flat xs), h.1.0) in
    let place : length (x ++ rest) - elem ≡ length x + (length rest - elem) = omega (arith, length-append x rest, h.0, some) in
    let last : length (x ∷ (y ∷ xs)) - 1 ≡ suc (length (y ∷ xs) - 1) = omega arith in
    ap (λ n. drop n (x ++ rest)) place ∙ sym (drop-more (length x) (length rest - elem) (x ++ rest))
    ∙ ap (drop (length rest - elem)) (drop-append_seam x rest)
    ∙ last-of-flat elem (y ∷ xs) (omega arith) h.1 ∙ sym (ap (λ n. get_or (x ∷ (y ∷ xs)) n []) last)

-- the last of some elements, as a slice has it
module _ (n elem : ℕ) (front : List ℤ) (some : 1 ≤ n) (e : length front ≡ n * elem) where
  enough : elem ≤ length front
  enough = let low : elem ≤ n * elem = times-one n elem some in omega (arith, low, e)

  pub last-is : take (length front - (length front - elem)) (drop (length front - elem) front) ≡ drop (length front - elem) front
  last-is = take_all (length front - (length front - elem)) (drop (length front - elem) front)
      (omega (arith, length-drop (length front - elem) front))

  pub last-length : length (take (length front - (length front - elem)) (drop (length front - elem) front)) ≡ elem
  last-length = omega (
    arith,
    enough,
    length-take (length front - (length front - elem)) (drop (length front - elem) front),
    length-drop (length front - elem) front,
  )

front-in-words : (folds : List (List ℤ)) (rest : Scanned) → in_words (with_front folds rest) ≡ with_next (Value (flat folds)) (in_words rest)
front-in-words folds (Ok more) = ap Value (flat-append folds more)
front-in-words folds (Err trap) = refl

before-in-words : (one : Outcome) (rest : Scanned) → in_words (before one rest) ≡ with_next one (in_words rest)
before-in-words (Trapped trap) rest = refl
before-in-words (Value words) (Ok folds) = refl
before-in-words (Value words) (Err trap) = refl

pub next-next : (front more : List ℤ) (rest : Outcome) →
    with_next (Value front) (with_next (Value more) rest) ≡ with_next (Value (front ++ more)) rest
next-next front more (Trapped trap) = refl
next-next front more (Value words) = ap Value (sym (append_assoc front more words))

-- the work left turns the folds so far into the whole
abbrev pub LeadsTo : (List ℤ → Outcome) → (elem : ℕ) → (folds last rest : List ℤ) → Outcome → Type 0
LeadsTo operator elem folds last rest whole =
    with_next (Value folds) (in_words (combined_each operator last (elements elem rest))) ≡ whole

module _ (operator : List ℤ → Outcome) (elem : ℕ) (some : 0 < elem) where
  pub begins : (n : ℕ) (front back last : List ℤ) → 1 ≤ n → length front ≡ n * elem → last ≡ drop (length front - elem) front →
      LeadsTo operator elem front last back (in_words (merged operator (elements elem front) (elements elem back)))
  unfolding merged
  begins n front back last some_n e is =
      let are = elements-are n elem front some e in
      let count : length (elements elem front) ≡ n = elements-count n elem front some e in
      let end : last_of (elements elem front) ≡ last =
      sym (last-of-flat elem (elements elem front) (omega (arith, count, some_n)) are.1)
      ∙ ap (λ ws. drop (length ws - elem) ws) are.0 ∙ sym is in
      sym (front-in-words (elements elem front) (combined_each operator (last_of (elements elem front)) (elements elem back))
      ∙ ap₂ (λ ws l. with_next (Value ws) (in_words (combined_each operator l (elements elem back)))) are.0 end)

  step-is : (last rest : List ℤ) → elem ≤ length rest →
      in_words (combined_each operator last (elements elem rest))
      ≡ with_next (operator (last ++ take elem rest)) (in_words (combined_each operator last (elements elem (drop elem rest))))
  unfolding combined_each
  step-is last rest l =
      ap (λ es. in_words (combined_each operator last es)) (elements-step elem rest some l)
      ∙ before-in-words (operator (last ++ take elem rest)) (combined_each operator last (elements elem (drop elem rest)))

  pub goes-on : (folds last rest fold : List ℤ) (whole : Outcome) → elem ≤ length rest →
      operator (last ++ take elem rest) ≡ Value fold → LeadsTo operator elem folds last rest whole →
      LeadsTo operator elem (folds ++ fold) last (drop elem rest) whole
  goes-on folds last rest fold whole l is so_far =
      sym (next-next folds fold (in_words (combined_each operator last (elements elem (drop elem rest)))))
      ∙ ap (λ o. with_next (Value folds) (with_next o (in_words (combined_each operator last (elements elem (drop elem rest))))))
      (sym is)
      ∙ ap (with_next (Value folds)) (sym (step-is last rest l)) ∙ so_far

  pub stops : (folds last rest : List ℤ) (trap : Trap) (whole : Outcome) → elem ≤ length rest →
      operator (last ++ take elem rest) ≡ Trapped trap → LeadsTo operator elem folds last rest whole → Trapped trap ≡ whole
  stops folds last rest trap whole l is so_far =
      ap (λ o. with_next (Value folds) (with_next o (in_words (combined_each operator last (elements elem (drop elem rest))))))
      (sym is)
      ∙ ap (with_next (Value folds)) (sym (step-is last rest l)) ∙ so_far

  pub ends : (folds last rest : List ℤ) (whole : Outcome) → length rest < elem → LeadsTo operator elem folds last rest whole → Value folds ≡ whole
  unfolding combined_each
  ends folds last rest whole few so_far =
      ap Value (sym (append-nil folds))
      ∙ ap (λ es. with_next (Value folds) (in_words (combined_each operator last es))) (sym (elements-none elem rest few))
      ∙ so_far
