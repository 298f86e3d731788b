-- The joins turn the segments' folds into the tree fold of the whole, for any power of two of segments that is
-- no more than the elements: the leaves below place r are the places from 2 ^ d * r on, and a segment cut in two
-- folds as its halves combined.
use Rattle.std.proofs.Common.{◌≡◌, ℕ, ℤ, zero, suc, ◌+◌, ◌-◌, ◌*◌, ◌/◌, ◌^◌, ◌≤◌, ◌<◌, List, [], ◌∷◌, ◌++◌, length, map, get_or, refl, sym, ap, ap₂, ◌∙◌, arith, length-append}
use Rattle.std.proofs.Math.Nat.{pow-succ'}
use Rattle.std.proofs.Math.Seq.{take-append_seam, drop-append_seam}
use Rattle.std.proofs.lemmas.List.{map-append}
use Rattle.std.proofs.lemmas.Nat.{pow_pos}
use Rattle.p3l_base.specs.declared.outcome.Outcome.{Outcome}
use Rattle.p3l_skel.proofs.Folds.{tree_fold-one, tree_fold-halves, tree_fold-segments, length-segments}
use Rattle.p3l_reduce.specs.JoinTree.{Folding, joined, leaf_of}
use Rattle.p3l_skel.specs.Fold.{combined, tree_fold, segments}
use Rattle.p3l_reduce.specs.Meaning.{JoinsFoldTheWhole}
use Rattle.p3l_template.specs.Shape.{numbers_from}
use Rattle.p3l_template.specs.laws.TimesLaw.{numbers_append}

-- the fold of two lists of one length
tree_fold-pair : (operator : List ℤ → Outcome) (n : ℕ) (xs ys : List Outcome) → 1 ≤ n → length xs ≡ n →
    length ys ≡ n → tree_fold operator (xs ++ ys) ≡ combined operator (tree_fold operator xs) (tree_fold operator ys)
tree_fold-pair operator n xs ys some left right =
    let several : 2 ≤ length (xs ++ ys) = omega (arith, length-append xs ys) in
    let half : length (xs ++ ys) / 2 ≡ length xs = omega (arith, length-append xs ys) in
    let folded = tree_fold-halves operator (xs ++ ys) several in
    rw (half, take-append_seam xs ys, drop-append_seam xs ys) at folded

map_by : (f h : ℕ → Outcome) (c n : ℕ) → ((i : ℕ) → c ≤ i → i < c + n → f i ≡ h i) → map f (numbers_from c n) ≡ map h (numbers_from c n)
unfolding numbers_from
map_by f h c zero e = refl
map_by f h c (suc n) e =
    ap₂ (λ x xs. x ∷ xs) (e c (omega arith) (omega arith))
    (map_by f h (suc c) n (λ i a b. e i (omega arith) (omega arith)))

-- a list by its places, which are counted from c on
by_places : (f : List Outcome → Outcome) (xs : List (List Outcome)) (c : ℕ) →
    map (λ i. f (get_or xs (i - c) [])) (numbers_from c (length xs)) ≡ map f xs
unfolding numbers_from
by_places f [] c = refl
by_places f (x ∷ xs) c =
    let e : c - c ≡ 0 = omega arith in
    ap₂ (λ y ys. y ∷ ys) (ap (λ i. f (get_or (x ∷ xs) i [])) e)
    (map_by (λ i. f (get_or (x ∷ xs) (i - c) [])) (λ i. f (get_or xs (i - suc c) [])) (suc c) (length xs)
    (λ i a b. let d : i - c ≡ suc (i - suc c) = omega arith in ap (λ j. f (get_or (x ∷ xs) j [])) d)
    ∙ by_places f xs (suc c))

module _ (operator : List ℤ → Outcome) (g : Folding) (o : Outcome) (op : g.operator ≡ combined operator) where
  -- the folds of the segments below place r, in order
  unfoldable below : ℕ → ℕ → List Outcome
  below zero r = leaf_of g (r - g.count) o ∷ []
  below (suc d) r = below d (r + r) ++ below d (suc (r + r))

  below_count : (d r : ℕ) → length (below d r) ≡ 2 ^ d
  unfolding below
  below_count zero r = refl
  below_count (suc d) r =
      length-append (below d (r + r)) _
      ∙ omega (arith, below_count d (r + r), below_count d (suc (r + r)), pow-succ' 2 d)

  joined_folds : (d r : ℕ) → joined g d r o ≡ tree_fold operator (below d r)
  unfolding joined below
  joined_folds zero r = sym (tree_fold-one operator (leaf_of g (r - g.count) o))
  joined_folds (suc d) r =
      let some : 1 ≤ 2 ^ d = pow_pos d in
      ap (λ f. f (joined g d (r + r) o) (joined g d (suc (r + r)) o)) op
      ∙ ap₂ (combined operator) (joined_folds d (r + r)) (joined_folds d (suc (r + r)))
      ∙ sym (tree_fold-pair operator (2 ^ d) (below d (r + r)) (below d (suc (r + r))) some (below_count d (r + r))
      (below_count d (suc (r + r))))

  below_places : (d r : ℕ) → below d r ≡ map (λ q. leaf_of g (q - g.count) o) (numbers_from (2 ^ d * r) (2 ^ d))
  unfolding below numbers_from
  below_places zero r = let one : 2 ^ 0 ≡ 1 = refl in let e : 1 * r ≡ r = omega arith in
      ap (λ q. leaf_of g (q - g.count) o ∷ []) (sym e)
  below_places (suc d) r =
      let two : 2 ^ suc d ≡ 2 ^ d + 2 ^ d = pow-succ' 2 d ∙ omega arith in
      ap₂ (λ x y. x ++ y) (below_places d (r + r)) (below_places d (suc (r + r)))
      ∙ sym (map-append (λ q. leaf_of g (q - g.count) o) (numbers_from (2 ^ d * (r + r)) (2 ^ d))
      (numbers_from (2 ^ d * suc (r + r)) (2 ^ d)))
      ∙ ap (map (λ q. leaf_of g (q - g.count) o))
      (ap (λ z. numbers_from (2 ^ d * (r + r)) (2 ^ d) ++ numbers_from z (2 ^ d)) (omega arith)
      ∙ sym (numbers_append (2 ^ d * (r + r)) (2 ^ d) (2 ^ d))
      ∙ ap₂ numbers_from (omega arith ∙ ap (λ z. z * r) (sym two)) (sym two))

pub joins_whole : JoinsFoldTheWhole
joins_whole operator level outcomes g o count op leafs enough =
    let n : ℕ = 2 ^ level in
    joined_folds operator g o op level 1
    ∙ ap (tree_fold operator)
    (below_places operator g o op level 1
    ∙ ap (λ z. map (λ q. leaf_of g (q - g.count) o) (numbers_from z (2 ^ level))) {x = 2 ^ level * 1} {y = 2 ^ level}
    (omega arith)
    ∙ map_by (λ q. leaf_of g (q - g.count) o)
    (λ q. tree_fold operator (get_or (segments level outcomes) (q - 2 ^ level) [])) (2 ^ level) (2 ^ level)
    (λ q a b. ap (λ z. leaf_of g (q - z) o) count ∙ leafs (q - 2 ^ level) (omega arith))
    ∙ ap (λ z. map (λ q. tree_fold operator (get_or (segments level outcomes) (q - 2 ^ level) [])) (numbers_from (2 ^ level) z))
    (sym (length-segments level outcomes))
    ∙ by_places (tree_fold operator) (segments level outcomes) (2 ^ level))
    ∙ tree_fold-segments operator level outcomes enough
