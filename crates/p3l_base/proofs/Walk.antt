use Rattle.std.proofs.Common.{◌≡◌, ℕ, ℤ, ◌+◌, ◌-◌, ◌*◌, ◌/◌, ◌<◌, ◌≤◌, List, [], ◌∷◌, ◌++◌, zero, suc, sym, ap, ◌∙◌, arith, append_assoc}
use Rattle.std.specs.List.{flat_map, range_with_len}
use Rattle.std.proofs.lemmas.List.{map-append, append-nil}
use Rattle.std.proofs.lemmas.List.Concat.{flat_map-append}
use Rattle.std.proofs.lemmas.Nat.{row_fits}
use Rattle.std.proofs.Math.Nat.{mul-div_cancel_left}
use Rattle.p3l_base.specs.declared.slice.Dim.{Dim}
use Rattle.p3l_base.specs.Slice.{array_size, cut_places, words_at}

-- one index more at the end
pub range_more : (low n k : ℕ) → low + n ≡ k → range_with_len low (suc n) ≡ range_with_len low n ++ k ∷ []
range_more low zero k e = let e' : low ≡ k = omega arith in ap (λ x. x ∷ []) e'
range_more low (suc n) k e = ap (λ xs. low ∷ xs) (range_more (low + 1) n k (omega arith))

-- the pieces of one index more
pub pieces_more : {A : Type 0} (f : ℕ → List A) (low n k : ℕ) → low + n ≡ k → flat_map f (range_with_len low (suc n)) ≡ flat_map f (range_with_len low n) ++ f k
pieces_more f low n k e =
    ap (flat_map f) (range_more low n k e) ∙ flat_map-append f (range_with_len low n) (k ∷ []) ∙ ap (λ xs. flat_map f (range_with_len low n) ++ xs) (append-nil (f k))

-- an inner array ends within the whole
pub strided : (k n s : ℕ) → k < n → k * s + s ≤ n * s
strided k n s h = row_fits k s n s h (omega arith)

-- the words of an inner array are the whole's divided by the outer size
pub inner_stride : (len : ℕ) (dims inner : List Dim) (d : Dim) → dims ≡ d ∷ inner → len ≡ array_size dims → (d.size ≡ 0 → ⊥) → len / d.size ≡ array_size inner
inner_stride len dims inner d e h ne =
    let whole : len ≡ d.size * array_size inner = h ∙ ap array_size e in
    ap (λ x. x / d.size) whole ∙ mul-div_cancel_left (array_size inner) (omega arith)

-- the inner array at an index ends within the words that hold the whole
pub inner_within : (start len words k s : ℕ) (dims inner : List Dim) (d : Dim) → dims ≡ d ∷ inner → len ≡ array_size dims → s ≡ array_size inner → start + len ≤ words → k < d.size → start + k * s + s ≤ words
inner_within start len words k s dims inner d e h r w below =
    let whole : len ≡ d.size * s = h ∙ ap array_size e ∙ ap (λ x. d.size * x) (sym r) in
    omega (arith, strided k d.size s below)

-- the words of the cut of the inner arrays of `count` indices from `low` on
abbrev pub copied : List ℤ → ℕ → List Dim → ℕ → ℕ → ℕ → ℕ → List ℤ
copied words start inner i j low count =
    words_at words (flat_map (λ k. cut_places (start + k * array_size inner) inner i j) (range_with_len low count))

pub copied_more : (words : List ℤ) (start : ℕ) (inner : List Dim) (i j low k s : ℕ) (old now next : List ℤ) → low ≤ k → s ≡ array_size inner → now ≡ old ++ copied words start inner i j low (k - low) → next ≡ now ++ words_at words (cut_places (start + k * s) inner i j) → next ≡ old ++ copied words start inner i j low (k + 1 - low)
copied_more words start inner i j low k s old now next h r before step =
    let count : k + 1 - low ≡ suc (k - low) = omega arith in
    let f : ℕ → List ℕ = λ x. cut_places (start + x * array_size inner) inner i j in
    let more : copied words start inner i j low (suc (k - low)) ≡ copied words start inner i j low (k - low) ++ words_at words (f k) =
    ap (words_at words) (pieces_more f low (k - low) k (omega arith)) ∙ map-append _ (flat_map f (range_with_len low (k - low))) (f k) in
    let here : words_at words (cut_places (start + k * s) inner i j) ≡ words_at words (f k) = ap (λ x. words_at words (cut_places (start + k * x) inner i j)) r in
    rw (count, more) (step ∙ ap (λ xs. xs ++ words_at words (cut_places (start + k * s) inner i j)) before ∙ append_assoc old _ _ ∙ ap (λ xs. old ++ (copied words start inner i j low (k - low) ++ xs)) here)
