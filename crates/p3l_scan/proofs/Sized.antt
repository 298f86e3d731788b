-- Elements of one size: cut out of words, put together again, and what keeps their size.
use Rattle.std.proofs.Common.{◌≡◌, ℕ, ℤ, zero, suc, ◌+◌, ◌*◌, ◌<◌, ◌≤◌, List, [], ◌∷◌, ◌++◌, take, drop, length, refl, arith, ap, ap₂, sym, ◌∙◌, subst, append_assoc, length-append, length-take, length-drop}
use Rattle.std.proofs.Math.Nat.{suc-mul}
use Rattle.std.proofs.Math.Seq.{take-append_seam, drop-append_seam}
use Rattle.std.proofs.lemmas.List.{take-append-drop}
use Rattle.std.specs.List.{AllByRecursion, flat_map}
use Rattle.p3l_skel.specs.Item.{elements, pieces}
use Rattle.p3l_skel.proofs.Elements.{elements-step, elements-none}

-- each of these has `elem` words
abbrev pub Sized : ℕ → List (List ℤ) → Type 0
Sized elem = AllByRecursion (λ (x : List ℤ). length x ≡ elem)

-- these one after the other
abbrev pub flat : List (List ℤ) → List ℤ
flat = flat_map (λ x. x)

pub sized-append : (elem : ℕ) (xs ys : List (List ℤ)) → Sized elem xs → Sized elem ys → Sized elem (xs ++ ys)
sized-append elem [] ys h k = k
sized-append elem (x ∷ xs) ys h k = (h.0, sized-append elem xs ys h.1 k)

pub sized-take : (elem n : ℕ) (xs : List (List ℤ)) → Sized elem xs → Sized elem (take n xs)
sized-take elem zero xs h = tt
sized-take elem (suc n) [] h = tt
sized-take elem (suc n) (x ∷ xs) h = (h.0, sized-take elem n xs h.1)

pub sized-drop : (elem n : ℕ) (xs : List (List ℤ)) → Sized elem xs → Sized elem (drop n xs)
sized-drop elem zero xs h = h
sized-drop elem (suc n) [] h = tt
sized-drop elem (suc n) (x ∷ xs) h = sized-drop elem n xs h.1

pub flat-append : (xs ys : List (List ℤ)) → flat (xs ++ ys) ≡ flat xs ++ flat ys
flat-append [] ys = refl
flat-append (x ∷ xs) ys = ap (λ z. x ++ z) (flat-append xs ys) ∙ sym (append_assoc x (flat xs) (flat ys))

pub flat-length : (elem : ℕ) (xs : List (List ℤ)) → Sized elem xs → length (flat xs) ≡ length xs * elem
flat-length elem [] h = omega arith
flat-length elem (x ∷ xs) h =
    let product : suc (length xs) * elem ≡ elem + length xs * elem = omega (arith, suc-mul (length xs) elem) in
    omega (arith, length-append x (flat xs), h.0, flat-length elem xs h.1, product)

-- the elements of words that are elements one after the other are those
pub elements-flat : (elem : ℕ) (xs : List (List ℤ)) → 0 < elem → Sized elem xs → elements elem (flat xs) ≡ xs
elements-flat elem [] some h = elements-none elem [] some
elements-flat elem (x ∷ xs) some h =
    let fits : elem ≤ length (x ++ flat xs) = omega (arith, length-append x (flat xs), h.0) in
    let front : take elem (x ++ flat xs) ≡ x = subst (λ n. take n (x ++ flat xs) ≡ x) h.0 (take-append_seam x (flat xs)) in
    let back : drop elem (x ++ flat xs) ≡ flat xs = subst (λ n. drop n (x ++ flat xs) ≡ flat xs) h.0 (drop-append_seam x (flat xs)) in
    elements-step elem (x ++ flat xs) some fits
    ∙ ap₂ (λ y ys. y ∷ elements elem ys) front back
    ∙ ap (λ ys. x ∷ ys) (elements-flat elem xs some h.1)

-- the pieces of `n * elem` words
pub pieces-flat : (n elem : ℕ) (words : List ℤ) → length words ≡ n * elem → flat (pieces n elem words) ≡ words
pieces-flat zero elem [] e = refl
pieces-flat zero elem (w ∷ words) e = absurd (omega (arith, e))
pieces-flat (suc n) elem words e =
    let product : suc n * elem ≡ elem + n * elem = omega (arith, suc-mul n elem) in
    ap (λ ys. take elem words ++ ys) (pieces-flat n elem (drop elem words) (omega (arith, e, product, length-drop elem words)))
    ∙ take-append-drop elem words

pub pieces-sized : (n elem : ℕ) (words : List ℤ) → length words ≡ n * elem → Sized elem (pieces n elem words)
pieces-sized zero elem words e = tt
pieces-sized (suc n) elem words e =
    let product : suc n * elem ≡ elem + n * elem = omega (arith, suc-mul n elem) in (
      omega (arith, e, product, length-take elem words),
      pieces-sized n elem (drop elem words) (omega (arith, e, product, length-drop elem words)),
    )
