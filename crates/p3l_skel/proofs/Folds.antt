-- The fold by halves, and the folds of segments.
use Rattle.std.proofs.Common.{◌≡◌, ℕ, ℤ, zero, suc, ◌/◌, ◌^◌, ◌≤◌, List, [], ◌∷◌, ◌++◌, take, drop, length, map, refl, arith, ap, sym, ◌∙◌, length-append, length-take, length-drop}
use Rattle.std.proofs.Math.Nat.{pow-succ'}
use Rattle.std.proofs.lemmas.Nat.{pow_pos}
use Rattle.std.proofs.Math.Seq.{take-append_seam, drop-append_seam}
use Rattle.std.proofs.lemmas.List.{map-append, length-map, take-append-drop}
use Rattle.std.proofs.lemmas.List.Concat.{flat_map-append}
use Rattle.std.specs.List.{flat_map}
use Rattle.p3l_base.specs.declared.outcome.Outcome.{Outcome}
use Rattle.p3l_skel.specs.Fold.{fold_of_up_to, tree_fold, combined, halves, segments}

-- each half is shorter, and together they are the whole
half_length : {X : Type 0} (n : ℕ) (xs : List X) → length xs ≤ suc n → 2 ≤ length xs → (length (take (length xs / 2) xs) ≤ n) × (length (drop (length xs / 2) xs) ≤ n)
half_length {X} n xs fits several =
    (omega (arith, length-take (length xs / 2) xs), omega (arith, length-drop (length xs / 2) xs))

-- any number that the length doesn't pass gives the same fold
pub fold_of_up_to-enough : (operator : List ℤ → Outcome) (n m : ℕ) (xs : List Outcome) → length xs ≤ n → length xs ≤ m → fold_of_up_to n operator xs ≡ fold_of_up_to m operator xs
unfolding fold_of_up_to
fold_of_up_to-enough operator zero zero xs few less = refl
fold_of_up_to-enough operator zero (suc m) [] few less = refl
fold_of_up_to-enough operator zero (suc m) (x ∷ xs) few less = absurd (omega arith)
fold_of_up_to-enough operator (suc n) zero [] few less = refl
fold_of_up_to-enough operator (suc n) zero (x ∷ xs) few less = absurd (omega arith)
fold_of_up_to-enough operator (suc n) (suc m) [] few less = refl
fold_of_up_to-enough operator (suc n) (suc m) (x ∷ []) few less = refl
fold_of_up_to-enough operator (suc n) (suc m) (x ∷ (y ∷ xs)) few less =
    let all : List Outcome = x ∷ (y ∷ xs) in
    let several : 2 ≤ length all = omega arith in
    let one = half_length n all few several in
    let two = half_length m all less several in
    rw (fold_of_up_to-enough operator n m (take (length all / 2) all) one.0 two.0, fold_of_up_to-enough operator n m (drop (length all / 2) all) one.1 two.1) refl

-- the tree fold of several outcomes is that of the halves combined
pub tree_fold-halves : (operator : List ℤ → Outcome) (xs : List Outcome) → 2 ≤ length xs → tree_fold operator xs ≡ combined operator (tree_fold operator (take (length xs / 2) xs)) (tree_fold operator (drop (length xs / 2) xs))
unfolding fold_of_up_to
tree_fold-halves operator [] several = absurd (omega arith)
tree_fold-halves operator (x ∷ []) several = absurd (omega arith)
tree_fold-halves operator (x ∷ (y ∷ xs)) several =
    let all : List Outcome = x ∷ (y ∷ xs) in
    let n : ℕ = suc (length xs) in
    let fits : length all ≤ suc n = omega arith in
    let one = half_length n all fits several in
    rw (fold_of_up_to-enough operator (length (take (length all / 2) all)) n (take (length all / 2) all) (omega arith) one.0, fold_of_up_to-enough operator (length (drop (length all / 2) all)) n (drop (length all / 2) all) (omega arith) one.1) refl

pub tree_fold-one : (operator : List ℤ → Outcome) (x : Outcome) → tree_fold operator (x ∷ []) ≡ x
unfolding fold_of_up_to
tree_fold-one operator x = refl

-- the segments from the top down: those of both halves
pub segments-top : {X : Type 0} (level : ℕ) (xs : List X) → segments (suc level) xs ≡ segments level (take (length xs / 2) xs) ++ segments level (drop (length xs / 2) xs)
unfolding segments
segments-top zero xs = refl
segments-top (suc level) xs =
    rw (segments-top level xs) (flat_map-append halves (segments level (take (length xs / 2) xs)) (segments level (drop (length xs / 2) xs)))

pub length-segments : {X : Type 0} (level : ℕ) (xs : List X) → length (segments level xs) ≡ 2 ^ level
unfolding segments
length-segments zero xs = refl
length-segments (suc level) xs =
    rw (segments-top level xs, length-append (segments level (take (length xs / 2) xs)) (segments level (drop (length xs / 2) xs)), length-segments level (take (length xs / 2) xs), length-segments level (drop (length xs / 2) xs), pow-succ' 2 level) (omega arith)

pub flat_map-segments : {X : Type 0} (level : ℕ) (xs : List X) → flat_map (λ segment. segment) (segments level xs) ≡ xs
unfolding segments
flat_map-segments zero [] = refl
flat_map-segments zero (x ∷ xs) = ap (λ ys. x ∷ ys) (flat_map-segments zero xs)
flat_map-segments (suc level) xs =
    rw (segments-top level xs, flat_map-append (λ segment. segment) (segments level (take (length xs / 2) xs)) (segments level (drop (length xs / 2) xs)), flat_map-segments level (take (length xs / 2) xs), flat_map-segments level (drop (length xs / 2) xs))
    (take-append-drop (length xs / 2) xs)

-- the fold of two lists of one length
tree_fold-pair : (operator : List ℤ → Outcome) (n : ℕ) (xs ys : List Outcome) → 1 ≤ n → length xs ≡ n → length ys ≡ n → tree_fold operator (xs ++ ys) ≡ combined operator (tree_fold operator xs) (tree_fold operator ys)
tree_fold-pair operator n xs ys some left right =
    let several : 2 ≤ length (xs ++ ys) = omega (arith, length-append xs ys) in
    let half : length (xs ++ ys) / 2 ≡ length xs = omega (arith, length-append xs ys) in
    let folded = tree_fold-halves operator (xs ++ ys) several in
    rw (half, take-append_seam xs ys, drop-append_seam xs ys) at folded

-- the fold of the segments' folds is the fold of the whole
pub tree_fold-segments : (operator : List ℤ → Outcome) (level : ℕ) (xs : List Outcome) → 2 ^ level ≤ length xs → tree_fold operator (map (tree_fold operator) (segments level xs)) ≡ tree_fold operator xs
unfolding segments
tree_fold-segments operator zero xs fits = tree_fold-one operator (tree_fold operator xs)
tree_fold-segments operator (suc level) xs fits =
    let front : List Outcome = take (length xs / 2) xs in
    let back : List Outcome = drop (length xs / 2) xs in
    let power = pow-succ' 2 level in
    let some : 1 ≤ 2 ^ level = pow_pos level in
    let several : 2 ≤ length xs = omega arith in
    let front_fits : 2 ^ level ≤ length front = omega (arith, length-take (length xs / 2) xs) in
    let back_fits : 2 ^ level ≤ length back = omega (arith, length-drop (length xs / 2) xs) in
    let left : length (map (tree_fold operator) (segments level front)) ≡ 2 ^ level = length-map (segments level front) (tree_fold operator) ∙ length-segments level front in
    let right : length (map (tree_fold operator) (segments level back)) ≡ 2 ^ level = length-map (segments level back) (tree_fold operator) ∙ length-segments level back in
    ap (λ parts. tree_fold operator (map (tree_fold operator) parts)) (segments-top level xs)
    ∙ (ap (tree_fold operator) (map-append (tree_fold operator) (segments level front) (segments level back))
    ∙ (tree_fold-pair operator (2 ^ level) _ _ some left right
    ∙ (ap (λ y. combined operator y (tree_fold operator (map (tree_fold operator) (segments level back)))) (tree_fold-segments operator level front front_fits)
    ∙ (ap (λ y. combined operator (tree_fold operator front) y) (tree_fold-segments operator level back back_fits)
    ∙ sym (tree_fold-halves operator xs several)))))
