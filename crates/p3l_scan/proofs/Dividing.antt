-- A block divided into halves, and what their scans come to.
use Rattle.std.proofs.Common.{◌≡◌, ℕ, ℤ, zero, suc, ◌+◌, ◌*◌, ◌/◌, ◌<◌, ◌≤◌, Ok, Err, List, [], ◌∷◌, ◌++◌, ◌-◌, take, drop, length, arith, ap, ap₂, sym, ◌∙◌, append-nil, length-take, length-drop}
use Rattle.std.proofs.Math.Nat.{add-mul, mul-div_cancel, mul-le-mul_right, suc-mul}
use Rattle.p3l_base.specs.declared.outcome.Outcome.{Outcome}
use Rattle.p3l_base.specs.declared.outcome.Outcome.TheVariants.{Value, Trapped}
use Rattle.p3l_base.specs.declared.outcome.Trap.{Trap}
use Rattle.p3l_skel.specs.Item.{elements}
use Rattle.p3l_scan.specs.Scan.{Scanned, both, in_words, merged, scan}
use Rattle.p3l_scan.specs.Step.{merged_halves}
use Rattle.p3l_scan.proofs.Halving.{split-flat}
use Rattle.p3l_scan.proofs.Merging.{elements-are, elements-count}
use Rattle.p3l_scan.proofs.Scans.{Fits, scan-halves, scan-one}
use Rattle.p3l_scan.proofs.Sized.{elements-flat, flat, flat-length, sized-drop, sized-take}

-- the place of the middle
pub middle : (n elem len : ℕ) → 0 < elem → len ≡ n * elem → len / elem / 2 * elem ≡ n / 2 * elem
middle n elem len some e = ap (λ z. z / 2 * elem) (ap (λ z. z / elem) e ∙ mul-div_cancel n some)

pub middle-within : (n elem len : ℕ) → 0 < elem → len ≡ n * elem → len / elem / 2 * elem ≤ len
middle-within n elem len some e =
    let low : n / 2 * elem ≤ n * elem = mul-le-mul_right elem (omega arith) in omega (arith, low, middle n elem len some e, e)

module _ (n elem : ℕ) (some : 0 < elem) (block : List ℤ) (e : length block ≡ n * elem) where
  -- the first `k` elements of the block, and the others
  pub front-elements : (k : ℕ) → k ≤ n → elements elem (take (k * elem) block) ≡ take k (elements elem block)
  front-elements k l =
      let are = elements-are n elem block some e in
      let all : List (List ℤ) = elements elem block in
      let cut = split-flat elem k all are.1 (omega (arith, l, elements-count n elem block some e)) in
      ap (elements elem) (ap (take (k * elem)) (sym are.0) ∙ cut.0)
      ∙ elements-flat elem (take k all) some (sized-take elem k all are.1)

  pub back-elements : (k : ℕ) → k ≤ n → elements elem (drop (k * elem) block) ≡ drop k (elements elem block)
  back-elements k l =
      let are = elements-are n elem block some e in
      let all : List (List ℤ) = elements elem block in
      let cut = split-flat elem k all are.1 (omega (arith, l, elements-count n elem block some e)) in
      ap (elements elem) (ap (drop (k * elem)) (sym are.0) ∙ cut.1)
      ∙ elements-flat elem (drop k all) some (sized-drop elem k all are.1)

  module _ (operator : List ℤ → Outcome) where
    -- the scan of the whole is that of both halves
    pub halves : 2 ≤ n →
        scan operator (elements elem block)
        ≡ both operator (scan operator (elements elem (take (n / 2 * elem) block)))
        (scan operator (elements elem (drop (n / 2 * elem) block)))
    halves several =
        let all : List (List ℤ) = elements elem block in
        let count : length all ≡ n = elements-count n elem block some e in
        scan-halves operator all (omega (arith, count, several))
        ∙ ap (λ m. both operator (scan operator (take (m / 2) all)) (scan operator (drop (m / 2) all))) count
        ∙ ap₂ (λ xs ys. both operator (scan operator xs) (scan operator ys)) (sym (front-elements (n / 2) (omega arith)))
        (sym (back-elements (n / 2) (omega arith)))

pub front-trap : (operator : List ℤ → Outcome) (front back : Scanned) (trap : Trap) → Trapped trap ≡ in_words front →
    Trapped trap ≡ in_words (both operator front back)
front-trap operator (Err t) back trap e = e
front-trap operator (Ok folds) back trap e = cc

pub back-trap : (operator : List ℤ → Outcome) (front back : Scanned) (words : List ℤ) (trap : Trap) → Value words ≡ in_words front →
    Trapped trap ≡ in_words back → Trapped trap ≡ in_words (both operator front back)
back-trap operator (Err t) back words trap e h = cc
back-trap operator (Ok folds) (Err t) words trap e h = h
back-trap operator (Ok folds) (Ok more) words trap e h = cc

-- the words of a scan are its folds one after the other
pub scan-words : (n elem : ℕ) (r : Scanned) (words : List ℤ) → 0 < elem → Fits n elem r → Value words ≡ in_words r →
    (r ≡ Ok (elements elem words)) × (length words ≡ n * elem)
unfolding Fits
scan-words n elem (Err trap) words some h e = cc
scan-words n elem (Ok folds) words some h e =
    let same : words ≡ flat folds = cc in (
      ap Ok (sym (elements-flat elem folds some h.1) ∙ ap (elements elem) (sym same)),
      ap length same ∙ flat-length elem folds h.1 ∙ ap (λ z. z * elem) h.0,
    )

-- a block of two halves of n elements each
module _ (n elem : ℕ) (some : 0 < elem) (block : List ℤ) (e : length block ≡ 2 * (n * elem)) where
  whole : length block ≡ (n + n) * elem
  whole = e ∙ omega (arith, add-mul n n elem)

  cut-is : length block / elem / 2 * elem ≡ n * elem
  cut-is = middle (n + n) elem (length block) some whole ∙ let half : (n + n) / 2 ≡ n = omega arith in ap (λ z. z * elem) half

  pub front-half : length (take (length block / elem / 2 * elem) block) ≡ n * elem
  front-half = omega (arith, cut-is, e, length-take (length block / elem / 2 * elem) block)

  pub back-half : length (drop (length block / elem / 2 * elem) block) ≡ n * elem
  back-half = omega (arith, cut-is, e, length-drop (length block / elem / 2 * elem) block)

  pub half-merged : (operator : List ℤ → Outcome) →
      in_words (merged operator (elements elem (take (length block / elem / 2 * elem) block))
      (elements elem (drop (length block / elem / 2 * elem) block)))
      ≡ in_words (merged_halves operator (elements elem block))
  half-merged operator =
      let half : length (elements elem block) / 2 ≡ n = omega (arith, elements-count (n + n) elem block some whole) in
      ap (λ m. in_words (merged operator (elements elem (take m block)) (elements elem (drop m block)))) cut-is
      ∙ ap₂ (λ xs ys. in_words (merged operator xs ys)) (front-elements (n + n) elem some block whole n (omega arith))
      (back-elements (n + n) elem some block whole n (omega arith))
      ∙ sym (ap (λ m. in_words (merged operator (take m (elements elem block)) (drop m (elements elem block)))) half)

-- a block of more than one element
pub several : (n elem len : ℕ) → 1 ≤ n → len ≡ n * elem → (len ≡ elem → ⊥) → 2 ≤ n
several zero elem len some e other = absurd (omega arith)
several (suc zero) elem len some e other = let one : 1 * elem ≡ elem = omega arith in absurd (other (e ∙ one))
several (suc (suc n)) elem len some e other = omega arith

times-low : (a b : ℕ) → 1 ≤ a → b ≤ a * b
times-low (suc a) b l = omega (arith, suc-mul a b)
times-low zero b l = absurd (omega arith)

module _ (n elem : ℕ) (some : 0 < elem) (block : List ℤ) (e : length block ≡ n * elem) (many : 2 ≤ n) where
  abbrev half : ℕ
  half = n / 2

  abbrev other : ℕ
  other = n - n / 2

  parts-are : n / 2 * elem + (n - n / 2) * elem ≡ n * elem
  parts-are = sym (add-mul (n / 2) (n - n / 2) elem) ∙ let all : n / 2 + (n - n / 2) ≡ n = omega arith in ap (λ z. z * elem) all

  pub front-length : length (take (length block / elem / 2 * elem) block) ≡ n / 2 * elem
  front-length =
      omega (arith, middle n elem (length block) some e, parts-are, e, length-take (length block / elem / 2 * elem) block)

  pub back-length : length (drop (length block / elem / 2 * elem) block) ≡ (n - n / 2) * elem
  back-length =
      omega (arith, middle n elem (length block) some e, parts-are, e, length-drop (length block / elem / 2 * elem) block)

  pub front-less : length (take (length block / elem / 2 * elem) block) < length block
  front-less =
      let low : elem ≤ (n - n / 2) * elem = times-low (n - n / 2) elem (omega arith) in
      omega (arith, front-length, parts-are, e, low, some)

  pub back-less : length (drop (length block / elem / 2 * elem) block) < length block
  back-less =
      let low : elem ≤ n / 2 * elem = times-low (n / 2) elem (omega arith) in omega (arith, back-length, parts-are, e, low, some)

  pub halves-at : (operator : List ℤ → Outcome) →
      scan operator (elements elem block)
      ≡ both operator (scan operator (elements elem (take (length block / elem / 2 * elem) block)))
      (scan operator (elements elem (drop (length block / elem / 2 * elem) block)))
  halves-at operator =
      halves n elem some block e operator many
      ∙ ap (λ m. both operator (scan operator (elements elem (take m block))) (scan operator (elements elem (drop m block))))
      (sym (middle n elem (length block) some e))

-- the scan of a block of one element
pub one-block : (operator : List ℤ → Outcome) (elem : ℕ) (block : List ℤ) → 0 < elem → length block ≡ elem →
    Value block ≡ in_words (scan operator (elements elem block))
one-block operator elem block some e =
    let single : elements elem (block ++ []) ≡ block ∷ [] = elements-flat elem (block ∷ []) some (e, tt) in
    ap Value (sym (append-nil block))
    ∙ sym (ap in_words (ap (λ ws. scan operator (elements elem ws)) (sym (append-nil block)) ∙ ap (scan operator) single
    ∙ scan-one operator block))

-- both halves have values
pub both-values : (operator : List ℤ → Outcome) (front back : Scanned) (xs ys : List (List ℤ)) → front ≡ Ok xs → back ≡ Ok ys →
    in_words (merged operator xs ys) ≡ in_words (both operator front back)
both-values operator front back xs ys a b = sym (ap in_words (ap₂ (both operator) a b))
