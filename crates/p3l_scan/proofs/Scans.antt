-- The scan: it keeps the number and the size of elements, goes by halves, and ends with the tree fold.
use Rattle.std.proofs.Common.{◌≡◌, ℕ, ℤ, zero, suc, ◌+◌, ◌-◌, ◌/◌, ◌<◌, ◌≤◌, Ok, Err, List, [], ◌∷◌, ◌++◌, take, drop, length, get_or, refl, arith, ap, ap₂, subst, length-append, length-take, length-drop}
use Rattle.std.specs.Prelude.{⊤}
use Rattle.p3l_base.specs.declared.outcome.Outcome.{Outcome}
use Rattle.p3l_base.specs.declared.outcome.Outcome.TheVariants.{Value, Trapped}
use Rattle.p3l_skel.specs.Tree.{HasLength}
use Rattle.p3l_scan.specs.Scan.{Scanned, before, both, combined_each, last_of, merged, scan, scan_of_up_to, with_front}
use Rattle.p3l_scan.proofs.Sized.{Sized, sized-append, sized-drop, sized-take}

-- `n` folds of `elem` words each, if it came to no trap
unfoldable pub Fits : ℕ → ℕ → Scanned → Type 0
Fits n elem (Ok folds) = (length folds ≡ n) × Sized elem folds
Fits n elem (Err trap) = ⊤

-- an operator makes of two elements one
abbrev pub Combines : ℕ → (List ℤ → Outcome) → Type 0
Combines elem operator = (v w : List ℤ) → length v ≡ elem → length w ≡ elem → HasLength elem (operator (v ++ w))

before-fits : (n elem : ℕ) (one : Outcome) (rest : Scanned) → HasLength elem one → Fits n elem rest → Fits (suc n) elem (before one rest)
unfolding Fits
before-fits n elem (Trapped trap) rest h k = tt
before-fits n elem (Value words) (Ok folds) h k = (ap suc k.0, (h, k.1))
before-fits n elem (Value words) (Err trap) h k = tt

each-fits : (elem : ℕ) (operator : List ℤ → Outcome) → Combines elem operator → (last : List ℤ) (xs : List (List ℤ)) →
    length last ≡ elem → Sized elem xs → Fits (length xs) elem (combined_each operator last xs)
unfolding combined_each Fits
each-fits elem operator keeps last [] l h = (refl, tt)
each-fits elem operator keeps last (x ∷ xs) l h =
    before-fits (length xs) elem (operator (last ++ x)) (combined_each operator last xs) (keeps last x l h.0)
    (each-fits elem operator keeps last xs l h.1)

pub sized-at : (elem : ℕ) (xs : List (List ℤ)) (k : ℕ) → k < length xs → Sized elem xs → length (get_or xs k []) ≡ elem
sized-at elem [] k l h = absurd (omega arith)
sized-at elem (x ∷ xs) zero l h = h.0
sized-at elem (x ∷ xs) (suc k) l h = sized-at elem xs k (omega arith) h.1

front-fits : (n m elem : ℕ) (front : List (List ℤ)) (rest : Scanned) → length front ≡ n → Sized elem front → Fits m elem rest →
    Fits (n + m) elem (with_front front rest)
unfolding Fits
front-fits n m elem front (Ok more) e h k = (omega (arith, length-append front more, e, k.0), sized-append elem front more h k.1)
front-fits n m elem front (Err trap) e h k = tt

pub merged-fits : (elem : ℕ) (operator : List ℤ → Outcome) → Combines elem operator → (front back : List (List ℤ)) →
    1 ≤ length front → Sized elem front → Sized elem back → Fits (length front + length back) elem (merged operator front back)
unfolding merged
merged-fits elem operator keeps front back some h k =
    front-fits (length front) (length back) elem front (combined_each operator (last_of front) back) refl h
    (each-fits elem operator keeps (last_of front) back (sized-at elem front (length front - 1) (omega arith) h) k)

both-fits : (n m elem : ℕ) (operator : List ℤ → Outcome) → Combines elem operator → (front back : Scanned) → 1 ≤ n →
    Fits n elem front → Fits m elem back → Fits (n + m) elem (both operator front back)
unfolding Fits
both-fits n m elem operator keeps (Err trap) back some h k = tt
both-fits n m elem operator keeps (Ok front) (Err trap) some h k = tt
both-fits n m elem operator keeps (Ok front) (Ok back) some h k =
    subst (λ z. Fits z elem (merged operator front back)) (ap₂ (λ a b. a + b) h.0 k.0)
    (merged-fits elem operator keeps front back (omega (arith, h.0)) h.1 k.1)

-- each half is shorter, and together they are the whole
pub half_length : (n : ℕ) (xs : List (List ℤ)) → length xs ≤ suc n → 2 ≤ length xs →
    (length (take (length xs / 2) xs) ≤ n) × (length (drop (length xs / 2) xs) ≤ n)
half_length n xs fits several =
    (omega (arith, length-take (length xs / 2) xs), omega (arith, length-drop (length xs / 2) xs))

pub up_to-fits : (elem : ℕ) (operator : List ℤ → Outcome) → Combines elem operator → (n : ℕ) (xs : List (List ℤ)) → length xs ≤ n →
    Sized elem xs → Fits (length xs) elem (scan_of_up_to n operator xs)
unfolding scan_of_up_to Fits
up_to-fits elem operator keeps n [] few h = (refl, tt)
up_to-fits elem operator keeps n (x ∷ []) few h = (refl, h)
up_to-fits elem operator keeps zero (x ∷ (y ∷ xs)) few h = absurd (omega arith)
up_to-fits elem operator keeps (suc n) (x ∷ (y ∷ xs)) few h =
    let all : List (List ℤ) = x ∷ (y ∷ xs) in
    let half = half_length n all few (omega arith) in
    let front : List (List ℤ) = take (length all / 2) all in
    let back : List (List ℤ) = drop (length all / 2) all in
    let whole : length front + length back ≡ length all =
    omega (arith, length-take (length all / 2) all, length-drop (length all / 2) all) in
    subst (λ m. Fits m elem (both operator (scan_of_up_to n operator front) (scan_of_up_to n operator back))) whole
    (both-fits (length front) (length back) elem operator keeps (scan_of_up_to n operator front) (scan_of_up_to n operator back)
    (omega (arith, length-take (length all / 2) all))
    (up_to-fits elem operator keeps n front half.0 (sized-take elem (length all / 2) all h))
    (up_to-fits elem operator keeps n back half.1 (sized-drop elem (length all / 2) all h)))

pub scan-fits : (elem : ℕ) (operator : List ℤ → Outcome) → Combines elem operator → (xs : List (List ℤ)) → Sized elem xs →
    Fits (length xs) elem (scan operator xs)
scan-fits elem operator keeps xs h = up_to-fits elem operator keeps (length xs) xs (omega arith) h

-- any number that the length doesn't pass gives the same scan
enough : (operator : List ℤ → Outcome) (n m : ℕ) (xs : List (List ℤ)) → length xs ≤ n → length xs ≤ m →
    scan_of_up_to n operator xs ≡ scan_of_up_to m operator xs
unfolding scan_of_up_to
enough operator zero zero xs few less = refl
enough operator zero (suc m) [] few less = refl
enough operator zero (suc m) (x ∷ xs) few less = absurd (omega arith)
enough operator (suc n) zero [] few less = refl
enough operator (suc n) zero (x ∷ xs) few less = absurd (omega arith)
enough operator (suc n) (suc m) [] few less = refl
enough operator (suc n) (suc m) (x ∷ []) few less = refl
enough operator (suc n) (suc m) (x ∷ (y ∷ xs)) few less =
    let all : List (List ℤ) = x ∷ (y ∷ xs) in
    let one = half_length n all few (omega arith) in
    let two = half_length m all less (omega arith) in
    rw (enough operator n m (take (length all / 2) all) one.0 two.0, enough operator n m (drop (length all / 2) all) one.1 two.1) refl

-- the scan of several elements is that of the halves, merged
pub scan-halves : (operator : List ℤ → Outcome) (xs : List (List ℤ)) → 2 ≤ length xs →
    scan operator xs ≡ both operator (scan operator (take (length xs / 2) xs)) (scan operator (drop (length xs / 2) xs))
unfolding scan_of_up_to
scan-halves operator [] several = absurd (omega arith)
scan-halves operator (x ∷ []) several = absurd (omega arith)
scan-halves operator (x ∷ (y ∷ xs)) several =
    let all : List (List ℤ) = x ∷ (y ∷ xs) in
    let n : ℕ = suc (length xs) in
    let one = half_length n all (omega arith) (omega arith) in
    rw (
      enough operator (length (take (length all / 2) all)) n (take (length all / 2) all) (omega arith) one.0,
      enough operator (length (drop (length all / 2) all)) n (drop (length all / 2) all) (omega arith) one.1,
    ) refl

pub scan-one : (operator : List ℤ → Outcome) (x : List ℤ) → scan operator (x ∷ []) ≡ Ok (x ∷ [])
unfolding scan_of_up_to
scan-one operator x = refl
