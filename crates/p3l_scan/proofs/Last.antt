-- The last fold of a scan is the tree fold of its elements.
use Rattle.std.proofs.Common.{◌≡◌, ℕ, ℤ, zero, suc, ◌+◌, ◌-◌, ◌/◌, ◌≤◌, Ok, Err, List, [], ◌∷◌, ◌++◌, take, drop, length, get_or, map, refl, arith, ap, ap₂, sym, ◌∙◌, length-append, length-take, length-drop}
use Rattle.std.proofs.lemmas.List.{length-map, take-map, drop-map, get_or-append-add}
use Rattle.p3l_base.specs.declared.outcome.Outcome.{Outcome}
use Rattle.p3l_base.specs.declared.outcome.Outcome.TheVariants.{Value, Trapped}
use Rattle.p3l_skel.specs.Fold.{combined, fold_of_up_to, tree_fold}
use Rattle.p3l_skel.proofs.Folds.{tree_fold-halves, tree_fold-one}
use Rattle.p3l_scan.specs.Scan.{Scanned, before, both, combined_each, last_of, merged, scan, scan_of_up_to, with_front}
use Rattle.p3l_scan.specs.Value.{EndsWithTheFold}
use Rattle.p3l_scan.proofs.Scans.{scan-halves, scan-one}

-- a first outcome and others make these folds
record IsBefore (one : Outcome) (rest : Scanned) (folds : List (List ℤ)) : Type 0 where
  word : List ℤ
  more : List (List ℤ)
  one_is : one ≡ Value word
  rest_is : rest ≡ Ok more
  folds_are : folds ≡ word ∷ more

inside : (one : Outcome) (rest : Scanned) (folds : List (List ℤ)) → before one rest ≡ Ok folds → IsBefore one rest folds
inside (Trapped trap) rest folds e = cc
inside (Value w) (Err trap) folds e = cc
inside (Value w) (Ok ws) folds e =
    record { word = w; more = ws; one_is = refl; rest_is = refl; folds_are = let same : w ∷ ws ≡ folds = cc in sym same }

-- the combinations with a last fold: as many, and the last of them is that of the last
each-last : (operator : List ℤ → Outcome) (last x : List ℤ) (xs folds : List (List ℤ)) →
    combined_each operator last (x ∷ xs) ≡ Ok folds →
    (1 ≤ length folds) × (Value (last_of folds) ≡ operator (last ++ last_of (x ∷ xs)))
unfolding combined_each
each-last operator last x [] folds e =
    let i = inside (operator (last ++ x)) (Ok []) folds e in
    let none : i.more ≡ [] = let same = i.rest_is in cc in
    let one : folds ≡ i.word ∷ [] = i.folds_are ∙ ap (λ ys. i.word ∷ ys) none in
    (omega (arith, ap length one), ap (λ ys. Value (last_of ys)) one ∙ sym i.one_is)
each-last operator last x (y ∷ xs) folds e =
    let i = inside (operator (last ++ x)) (combined_each operator last (y ∷ xs)) folds e in
    let r = each-last operator last y xs i.more i.rest_is in
    let a : length (i.word ∷ i.more) - 1 ≡ suc (length i.more - 1) = omega (arith, r.0) in
    let b : length (x ∷ (y ∷ xs)) - 1 ≡ suc (length (y ∷ xs) - 1) = omega arith in (
      omega (arith, ap length i.folds_are),
      ap (λ ys. Value (last_of ys)) i.folds_are ∙ ap (λ n. Value (get_or (i.word ∷ i.more) n [])) a ∙ r.1
          ∙ ap (λ n. operator (last ++ get_or (x ∷ (y ∷ xs)) n [])) (sym b),
    )

append-last : (xs ys : List (List ℤ)) → 1 ≤ length ys → last_of (xs ++ ys) ≡ last_of ys
append-last xs ys l =
    let place : length (xs ++ ys) - 1 ≡ length xs + (length ys - 1) = omega (arith, length-append xs ys, l) in
    ap (λ n. get_or (xs ++ ys) n []) place ∙ get_or-append-add xs ys (length ys - 1) []

merged-last : (operator : List ℤ → Outcome) (front back folds : List (List ℤ)) → 1 ≤ length back →
    merged operator front back ≡ Ok folds →
    (1 ≤ length folds) × (Value (last_of folds) ≡ operator (last_of front ++ last_of back))
unfolding merged
merged-last operator front [] folds l e = absurd (omega arith)
merged-last operator front (y ∷ ys) folds l e = by-each (combined_each operator (last_of front) (y ∷ ys)) refl e where
  by-each : (r : Scanned) → combined_each operator (last_of front) (y ∷ ys) ≡ r → with_front front r ≡ Ok folds →
      (1 ≤ length folds) × (Value (last_of folds) ≡ operator (last_of front ++ last_of (y ∷ ys)))
  by-each (Err trap) is e = cc
  by-each (Ok more) is e =
      let whole : front ++ more ≡ folds = cc in
      let r = each-last operator (last_of front) y ys more is in (
        omega (arith, ap length whole, length-append front more, r.0),
        ap (λ zs. Value (last_of zs)) (sym whole) ∙ ap Value (append-last front more r.0) ∙ r.1,
      )

-- both halves make these folds
record AreBoth (operator : List ℤ → Outcome) (one other : Scanned) (folds : List (List ℤ)) : Type 0 where
  front : List (List ℤ)
  back : List (List ℤ)
  one_is : one ≡ Ok front
  other_is : other ≡ Ok back
  merged_is : merged operator front back ≡ Ok folds

both-are : (operator : List ℤ → Outcome) (one other : Scanned) (folds : List (List ℤ)) → both operator one other ≡ Ok folds →
    AreBoth operator one other folds
both-are operator (Err trap) other folds e = cc
both-are operator (Ok front) (Err trap) folds e = cc
both-are operator (Ok front) (Ok back) folds e =
    record { front = front; back = back; one_is = refl; other_is = refl; merged_is = e }

values : List (List ℤ) → List Outcome
values = map (λ element. Value element)

-- of at least one element
some-last : (operator : List ℤ → Outcome) (n : ℕ) (xs folds : List (List ℤ)) → length xs ≤ n → 1 ≤ length xs →
    scan operator xs ≡ Ok folds → (1 ≤ length folds) × (Value (last_of folds) ≡ tree_fold operator (values xs))
unfolding values
some-last operator n [] folds few some e = absurd (omega arith)
some-last operator n (x ∷ []) folds few some e =
    let is : Ok (x ∷ []) ≡ Ok folds = sym (scan-one operator x) ∙ e in
    let one : x ∷ [] ≡ folds = cc in (
      omega (arith, ap length one),
      ap (λ ys. Value (last_of ys)) (sym one) ∙ sym (tree_fold-one operator (Value x)),
    )
some-last operator zero (x ∷ (y ∷ xs)) folds few some e = absurd (omega arith)
some-last operator (suc n) (x ∷ (y ∷ xs)) folds few some e =
    let all : List (List ℤ) = x ∷ (y ∷ xs) in
    let half : ℕ = length all / 2 in
    let count : length (values all) ≡ length all = length-map all (λ element. Value element) in
    let several : 2 ≤ length all = omega arith in
    let parts = both-are operator (scan operator (take half all)) (scan operator (drop half all)) folds
    (sym (scan-halves operator all several) ∙ e) in
    let A = some-last operator n (take half all) parts.front (omega (arith, length-take half all, few))
    (omega (arith, length-take half all)) parts.one_is in
    let B = some-last operator n (drop half all) parts.back (omega (arith, length-drop half all, few))
    (omega (arith, length-drop half all)) parts.other_is in
    let m = merged-last operator parts.front parts.back folds B.0 parts.merged_is in
    let left : tree_fold operator (take (length (values all) / 2) (values all)) ≡ Value (last_of parts.front) =
    ap (λ k. tree_fold operator (take (k / 2) (values all))) count
    ∙ ap (tree_fold operator) (take-map (λ element. Value element) half all) ∙ sym A.1 in
    let right : tree_fold operator (drop (length (values all) / 2) (values all)) ≡ Value (last_of parts.back) =
    ap (λ k. tree_fold operator (drop (k / 2) (values all))) count
    ∙ ap (tree_fold operator) (drop-map (λ element. Value element) half all) ∙ sym B.1 in (
      m.0,
      m.1 ∙ sym (tree_fold-halves operator (values all) (omega (arith, count)) ∙ ap₂ (combined operator) left right),
    )

pub ends_with_the_fold : EndsWithTheFold
unfolding values fold_of_up_to scan_of_up_to
ends_with_the_fold operator [] folds e =
    let none : [] ≡ folds = cc in ap (λ ys. Value (last_of ys)) (sym none)
ends_with_the_fold operator (x ∷ xs) folds e =
    let r = some-last operator (length (x ∷ xs)) (x ∷ xs) folds (omega arith) (omega arith) e in r.1
