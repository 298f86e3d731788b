-- The stages of a plan, on lists of elements: the first scans blocks, and each later one makes of the scans of blocks those of
-- blocks of twice the elements, or traps where one of these does.
use Rattle.std.proofs.Common.{◌≡◌, ℕ, ℤ, zero, suc, ◌+◌, ◌*◌, ◌/◌, ◌<◌, ◌≤◌, Ok, Err, List, [], ◌∷◌, ◌++◌, take, drop, length, map, refl, arith, ap, ap₂, sym, ◌∙◌, subst, append_assoc, length-append, length-take, length-drop}
use Rattle.std.proofs.Math.Nat.{add-mul, suc-mul}
use Rattle.std.proofs.Math.Seq.{take-append_seam, drop-append_seam}
use Rattle.std.proofs.lemmas.List.{take-append-drop}
use Rattle.p3l_base.specs.declared.outcome.Outcome.{Outcome}
use Rattle.p3l_base.specs.declared.outcome.Outcome.TheVariants.{Value, Trapped}
use Rattle.p3l_skel.specs.Item.{on_value, pieces}
use Rattle.p3l_skel.specs.Tree.{HasLength}
use Rattle.p3l_scan.specs.Row.{in_row, with_next}
use Rattle.p3l_scan.specs.Scan.{Scanned, both, in_words, merged, scan}
use Rattle.p3l_scan.specs.Step.{step_leaf}
use Rattle.p3l_scan.specs.Value.{Agree}
use Rattle.p3l_scan.proofs.Leaves.{first-step, later-step, words-length}
use Rattle.p3l_scan.proofs.Scans.{Combines, Fits, scan-fits, scan-halves}
use Rattle.p3l_scan.proofs.Sized.{Sized, flat, flat-append, flat-length, sized-drop, sized-take}

-- `n` blocks of `b` elements
unfoldable pub chunks : ℕ → ℕ → List (List ℤ) → List (List (List ℤ))
chunks zero b xs = []
chunks (suc n) b xs = take b xs ∷ chunks n b (drop b xs)

pub Agree-same : (outcome : Outcome) → Agree outcome outcome
Agree-same (Value words) = refl
Agree-same (Trapped trap) = tt

-- a row that is a value begins with one
record IsRow (first rest : Outcome) (words : List ℤ) : Type 0 where
  front : List ℤ
  back : List ℤ
  first_is : first ≡ Value front
  rest_is : rest ≡ Value back
  whole : words ≡ front ++ back

row-inside : (first rest : Outcome) (words : List ℤ) → with_next first rest ≡ Value words → IsRow first rest words
row-inside (Trapped trap) rest words e = cc
row-inside (Value v) (Trapped trap) words e = cc
row-inside (Value v) (Value w) words e =
    record { front = v; back = w; first_is = refl; rest_is = refl; whole = let same : v ++ w ≡ words = cc in sym same }

-- a value comes of folds
record IsOfFolds (r : Scanned) (words : List ℤ) : Type 0 where
  folds : List (List ℤ)
  scanned : r ≡ Ok folds
  words_are : words ≡ flat folds

folds-inside : (r : Scanned) (words : List ℤ) → in_words r ≡ Value words → IsOfFolds r words
folds-inside (Ok folds) words e =
    record { folds = folds; scanned = refl; words_are = let same : flat folds ≡ words = cc in sym same }
folds-inside (Err trap) words e = cc

both-inside : (operator : List ℤ → Outcome) (front back : Scanned) (folds : List (List ℤ)) → both operator front back ≡ Ok folds →
    ((fs : List (List ℤ)) × (front ≡ Ok fs)) × ((bs : List (List ℤ)) × (back ≡ Ok bs))
both-inside operator (Err trap) back folds e = cc
both-inside operator (Ok fs) (Err trap) folds e = cc
both-inside operator (Ok fs) (Ok bs) folds e = ((fs, refl), (bs, refl))

drop-both : (a b : ℕ) (xs : List (List ℤ)) → drop b (drop a xs) ≡ drop (a + b) xs
drop-both zero b xs = let e : b ≡ 0 + b = omega arith in ap (λ k. drop k xs) e
drop-both (suc a) zero [] = let e : suc (a + 0) ≡ suc a + 0 = omega arith in ap (λ k. drop k []) e
drop-both (suc a) (suc b) [] = let e : suc (a + suc b) ≡ suc a + suc b = omega arith in ap (λ k. drop k []) e
drop-both (suc a) b (x ∷ xs) =
    let e : suc (a + b) ≡ suc a + b = omega arith in drop-both a b xs ∙ ap (λ k. drop k (x ∷ xs)) e

pub split-flat : (elem b : ℕ) (xs : List (List ℤ)) → Sized elem xs → b ≤ length xs →
    (take (b * elem) (flat xs) ≡ flat (take b xs)) × (drop (b * elem) (flat xs) ≡ flat (drop b xs))
split-flat elem b xs h l =
    let whole : flat xs ≡ flat (take b xs) ++ flat (drop b xs) =
    ap flat (sym (take-append-drop b xs)) ∙ flat-append (take b xs) (drop b xs) in
    let count : length (take b xs) ≡ b = omega (arith, length-take b xs, l) in
    let long : length (flat (take b xs)) ≡ b * elem =
    flat-length elem (take b xs) (sized-take elem b xs h) ∙ ap (λ z. z * elem) count in (
      ap (take (b * elem)) whole
          ∙ subst (λ n. take n (flat (take b xs) ++ flat (drop b xs)) ≡ flat (take b xs)) long
          (take-append_seam (flat (take b xs)) (flat (drop b xs))),
      ap (drop (b * elem)) whole
          ∙ subst (λ n. drop n (flat (take b xs) ++ flat (drop b xs)) ≡ flat (drop b xs)) long
          (drop-append_seam (flat (take b xs)) (flat (drop b xs))),
    )

front-of : (n m : ℕ) (xs : List (List ℤ)) → take n (take (n + m) xs) ≡ take n xs
front-of zero m xs = refl
front-of (suc n) m [] = let e : suc n + m ≡ suc (n + m) = omega arith in ap (λ k. take (suc n) (take k [])) e
front-of (suc n) m (x ∷ xs) =
    let e : suc n + m ≡ suc (n + m) = omega arith in
    ap (λ k. take (suc n) (take k (x ∷ xs))) e ∙ ap (λ ys. x ∷ ys) (front-of n m xs)

back-of : (n m : ℕ) (xs : List (List ℤ)) → drop n (take (n + m) xs) ≡ take m (drop n xs)
back-of zero m xs = let e : 0 + m ≡ m = omega arith in ap (λ k. take k xs) e
back-of (suc n) zero [] = let e : suc n + 0 ≡ suc (n + 0) = omega arith in ap (λ k. drop (suc n) (take k [])) e
back-of (suc n) (suc m) [] =
    let e : suc n + suc m ≡ suc (n + suc m) = omega arith in ap (λ k. drop (suc n) (take k [])) e
back-of (suc n) m (x ∷ xs) =
    let e : suc n + m ≡ suc (n + m) = omega arith in ap (λ k. drop (suc n) (take k (x ∷ xs))) e ∙ back-of n m xs

module _ (elem : ℕ) (some : 0 < elem) (operator : List ℤ → Outcome) (keeps : Combines elem operator) where
  -- the outcome of the scan of a block
  abbrev pub scanned : List (List ℤ) → Outcome
  scanned block = in_words (scan operator block)

  -- the outcome of the scans of all n blocks
  abbrev pub scans : (n b : ℕ) → List (List ℤ) → Outcome
  scans n b xs = in_row (map scanned (chunks n b xs))

  pub first-stage : (n b : ℕ) (xs : List (List ℤ)) → length xs ≡ n * b → Sized elem xs →
      map (step_leaf elem operator 2) (pieces n (b * elem) (flat xs)) ≡ map scanned (chunks n b xs)
  unfolding chunks
  first-stage zero b xs e h = refl
  first-stage (suc n) b xs e h =
      let product : suc n * b ≡ b + n * b = omega (arith, suc-mul n b) in
      let cut = split-flat elem b xs h (omega (arith, e, product)) in
      ap₂ (λ x ys. x ∷ ys)
      (ap (step_leaf elem operator 2) cut.0
      ∙ first-step elem some operator keeps (take b xs) (sized-take elem b xs h))
      (ap (λ ws. map (step_leaf elem operator 2) (pieces n (b * elem) ws)) cut.1
      ∙ first-stage n b (drop b xs) (omega (arith, e, product, length-drop b xs)) (sized-drop elem b xs h))

  -- the scan of a block of two halves
  halves-scan : (b : ℕ) (xs : List (List ℤ)) → 1 ≤ b → b + b ≤ length xs →
      scan operator (take (b + b) xs) ≡ both operator (scan operator (take b xs)) (scan operator (take b (drop b xs)))
  halves-scan b xs some_b l =
      let long : length (take (b + b) xs) ≡ b + b = omega (arith, length-take (b + b) xs, l) in
      let half : length (take (b + b) xs) / 2 ≡ b = omega (arith, long) in
      scan-halves operator (take (b + b) xs) (omega (arith, long, some_b))
      ∙ ap (λ m. both operator (scan operator (take m (take (b + b) xs))) (scan operator (drop m (take (b + b) xs)))) half
      ∙ ap₂ (λ ys zs. both operator (scan operator ys) (scan operator zs)) (front-of b b xs) (back-of b b xs)

  next-two : (n b : ℕ) (xs : List (List ℤ)) →
      scans (suc n + suc n) b xs
      ≡ with_next (scanned (take b xs)) (with_next (scanned (take b (drop b xs))) (scans (n + n) b (drop (b + b) xs)))
  unfolding chunks in_row
  next-two n b xs =
      let count : suc n + suc n ≡ suc (suc (n + n)) = omega arith in
      ap (λ m. scans m b xs) count
      ∙ ap (λ ys. with_next (scanned (take b xs)) (with_next (scanned (take b (drop b xs))) (scans (n + n) b ys))) (drop-both b b xs)

  -- a later stage makes of the scans of blocks those of blocks of twice the elements
  pub later-stage : (home n b : ℕ) (xs : List (List ℤ)) (words : List ℤ) → 2 < home → 1 ≤ b → length xs ≡ n * (b + b) →
      Sized elem xs → scans (n + n) b xs ≡ Value words →
      map (step_leaf elem operator home) (pieces n ((b + b) * elem) words) ≡ map scanned (chunks n (b + b) xs)
  unfolding chunks Fits
  later-stage home zero b xs words late some_b e h is = refl
  later-stage home (suc n) b xs words late some_b e h is =
      let product : suc n * (b + b) ≡ (b + b) + n * (b + b) = omega (arith, suc-mul n (b + b)) in
      let one = row-inside _ _ words (sym (next-two n b xs) ∙ is) in
      let two = row-inside _ _ one.back one.rest_is in
      let A = folds-inside (scan operator (take b xs)) one.front one.first_is in
      let B = folds-inside (scan operator (take b (drop b xs))) two.front two.first_is in
      let sized_a : Sized elem (take b xs) = sized-take elem b xs h in
      let sized_b : Sized elem (take b (drop b xs)) = sized-take elem b (drop b xs) (sized-drop elem b xs h) in
      let fits_a = subst (Fits (length (take b xs)) elem) A.scanned (scan-fits elem operator keeps (take b xs) sized_a) in
      let fits_b = subst (Fits (length (take b (drop b xs))) elem) B.scanned
      (scan-fits elem operator keeps (take b (drop b xs)) sized_b) in
      let count_a : length A.folds ≡ b = omega (arith, fits_a.0, length-take b xs, e, product) in
      let count_b : length B.folds ≡ b =
      omega (arith, fits_b.0, length-take b (drop b xs), length-drop b xs, e, product) in
      let both_words : List ℤ = flat A.folds ++ flat B.folds in
      let words_are : words ≡ both_words ++ two.back =
      one.whole ∙ ap₂ (λ u v. u ++ v) A.words_are (two.whole ∙ ap (λ v. v ++ two.back) B.words_are)
      ∙ sym (append_assoc (flat A.folds) (flat B.folds) two.back) in
      let twice : (b + b) * elem ≡ b * elem + b * elem = add-mul b b elem in
      let long : length both_words ≡ (b + b) * elem =
      omega (
        arith,
        twice,
        length-append (flat A.folds) (flat B.folds),
        flat-length elem A.folds fits_a.1 ∙ ap (λ z. z * elem) count_a,
        flat-length elem B.folds fits_b.1 ∙ ap (λ z. z * elem) count_b,
      ) in
      let front : take ((b + b) * elem) words ≡ both_words =
      ap (take ((b + b) * elem)) words_are
      ∙ subst (λ m. take m (both_words ++ two.back) ≡ both_words) long (take-append_seam both_words two.back) in
      let back : drop ((b + b) * elem) words ≡ two.back =
      ap (drop ((b + b) * elem)) words_are
      ∙ subst (λ m. drop m (both_words ++ two.back) ≡ two.back) long (drop-append_seam both_words two.back) in
      let whole : scan operator (take (b + b) xs) ≡ merged operator A.folds B.folds =
      halves-scan b xs some_b (omega (arith, e, product)) ∙ ap₂ (both operator) A.scanned B.scanned in
      ap₂ (λ x ys. x ∷ ys)
      (ap (step_leaf elem operator home) front
      ∙ later-step elem some operator keeps home b A.folds B.folds late some_b count_a count_b fits_a.1 fits_b.1
      ∙ ap in_words (sym whole))
      (ap (λ ws. map (step_leaf elem operator home) (pieces n ((b + b) * elem) ws)) back
      ∙ later-stage home n b (drop (b + b) xs) two.back late some_b (omega (arith, e, product, length-drop (b + b) xs))
      (sized-drop elem (b + b) xs h) two.rest_is)

  next-length : (n m : ℕ) (first rest : Outcome) → HasLength n first → HasLength m rest → HasLength (n + m) (with_next first rest)
  next-length n m (Trapped trap) rest h k = tt
  next-length n m (Value v) (Trapped trap) h k = tt
  next-length n m (Value v) (Value w) h k = omega (arith, length-append v w, h, k)

  -- the scans of all blocks have the words of all elements
  pub scans-length : (n b : ℕ) (xs : List (List ℤ)) → length xs ≡ n * b → Sized elem xs → HasLength (n * b * elem) (scans n b xs)
  unfolding chunks in_row
  scans-length zero b xs e h =
      let one : 0 * b ≡ 0 = omega arith in
      let none : 0 ≡ 0 * b * elem = omega (arith, ap (λ z. z * elem) one) in none
  scans-length (suc n) b xs e h =
      let product : suc n * b ≡ b + n * b = omega (arith, suc-mul n b) in
      let count : length (take b xs) ≡ b = omega (arith, length-take b xs, e, product) in
      let sum : b * elem + n * b * elem ≡ suc n * b * elem = sym (ap (λ z. z * elem) product ∙ add-mul b (n * b) elem) in
      subst (λ m. HasLength m (scans (suc n) b xs)) sum
      (next-length (b * elem) (n * b * elem) (scanned (take b xs)) (scans n b (drop b xs))
      (subst (λ m. HasLength (m * elem) (scanned (take b xs))) count
      (words-length (length (take b xs)) elem (scan operator (take b xs))
      (scan-fits elem operator keeps (take b xs) (sized-take elem b xs h))))
      (scans-length n b (drop b xs) (omega (arith, e, product, length-drop b xs)) (sized-drop elem b xs h)))

  -- all smaller blocks have scans if all larger ones have
  smaller : (n b : ℕ) (xs : List (List ℤ)) (words : List ℤ) → 1 ≤ b → length xs ≡ n * (b + b) →
      scans n (b + b) xs ≡ Value words → (smaller_words : List ℤ) × (scans (n + n) b xs ≡ Value smaller_words)
  unfolding chunks in_row
  smaller zero b xs words some_b e is = ([], refl)
  smaller (suc n) b xs words some_b e is =
      let product : suc n * (b + b) ≡ (b + b) + n * (b + b) = omega (arith, suc-mul n (b + b)) in
      let one = row-inside (scanned (take (b + b) xs)) (scans n (b + b) (drop (b + b) xs)) words is in
      let all = folds-inside (scan operator (take (b + b) xs)) one.front one.first_is in
      let parts = both-inside operator (scan operator (take b xs)) (scan operator (take b (drop b xs))) all.folds
      (sym (halves-scan b xs some_b (omega (arith, e, product))) ∙ all.scanned) in
      let rest = smaller n b (drop (b + b) xs) one.back some_b (omega (arith, e, product, length-drop (b + b) xs)) one.rest_is in
      let A = parts.0 in
      let B = parts.1 in (
        flat A.0 ++ (flat B.0 ++ rest.0),
        next-two n b xs
            ∙ ap₂ (λ x y. with_next x (with_next y (scans (n + n) b (drop (b + b) xs)))) (ap in_words A.1) (ap in_words B.1)
            ∙ ap (λ z. with_next (Value (flat A.0)) (with_next (Value (flat B.0)) z)) rest.1,
      )

  -- a later stage on what agrees with the scans of blocks
  pub later-agrees : (home n b : ℕ) (xs : List (List ℤ)) (f : List ℤ → Outcome) (outcome : Outcome) → 2 < home → 1 ≤ b →
      length xs ≡ n * (b + b) → Sized elem xs →
      ((words : List ℤ) → scans (n + n) b xs ≡ Value words →
      f words ≡ in_row (map (step_leaf elem operator home) (pieces n ((b + b) * elem) words))) →
      Agree outcome (scans (n + n) b xs) → Agree (on_value f outcome) (scans n (b + b) xs)
  later-agrees home n b xs f outcome late some_b e h is agree =
      by-cases outcome (scans (n + n) b xs) (scans n (b + b) xs) refl refl agree where
        by-cases : (o g whole : Outcome) → scans (n + n) b xs ≡ g → scans n (b + b) xs ≡ whole → Agree o g → Agree (on_value f o) whole
        by-cases (Trapped trap) (Trapped other) (Trapped third) small large a = tt
        by-cases (Trapped trap) (Value words) whole small large a = absurd a
        by-cases (Trapped trap) (Trapped other) (Value words) small large a =
            let more = smaller n b xs words some_b e large in
            let never : Trapped other ≡ Value more.0 = sym small ∙ more.1 in cc
        by-cases (Value words) (Trapped trap) whole small large a = absurd a
        by-cases (Value v) (Value w) whole small large a =
            let same : f v ≡ whole =
            ap f a ∙ is w small ∙ ap in_row (later-stage home n b xs w late some_b e h small) ∙ large in
            subst (λ z. Agree (f v) z) same (Agree-same (f v))
