-- The elements of words.
use Rattle.std.proofs.Common.{◌≡◌, ℕ, ℤ, zero, suc, ◌-◌, ◌/◌, ◌<◌, ◌≤◌, List, [], ◌∷◌, ◌++◌, take, drop, length, refl, arith, ap, sym, ◌∙◌, subst, append_assoc, length-drop}
use Rattle.std.specs.List.{All}
use Rattle.std.proofs.Math.Nat.{div-eq-sub-div, div-eq_of_lt}
use Rattle.std.proofs.lemmas.List.Elements.{All-append, All-cons, All-nil}
use Rattle.p3l_skel.specs.Item.{pieces, elements}

-- the first element comes before those of the words after it
pub elements-step : (size : ℕ) (words : List ℤ) → 0 < size → size ≤ length words → elements size words ≡ take size words ∷ elements size (drop size words)
elements-step size words some fits =
    let left : length words - size ≡ length (drop size words) = omega (arith, length-drop size words) in
    let count : length words / size ≡ suc (length (drop size words) / size) =
    omega (arith, div-eq-sub-div some fits, ap (λ n. n / size) left) in
    ap (λ n. pieces n size words) count

-- too few words have no element
pub elements-none : (size : ℕ) (words : List ℤ) → length words < size → elements size words ≡ []
elements-none size words few = ap (λ n. pieces n size words) (div-eq_of_lt few)

-- one element more
pub elements-more : (size : ℕ) (list grown : List (List ℤ)) (element rest more words : List ℤ) → 0 < size → size ≤ length rest → element ≡ take size rest → more ≡ drop size rest → grown ≡ list ++ element ∷ [] → list ++ elements size rest ≡ elements size words → grown ++ elements size more ≡ elements size words
elements-more size list grown element rest more words some fits front back added so_far =
    rw (added, front, back, append_assoc list (take size rest ∷ []) (elements size (drop size rest)))
    (ap (λ es. list ++ es) (sym (elements-step size rest some fits)) ∙ so_far)

pub sized-more : (size : ℕ) (list grown : List (List ℤ)) (element : List ℤ) → length element ≡ size → grown ≡ list ++ element ∷ [] → All (λ e. length e ≡ size) list → All (λ e. length e ≡ size) grown
sized-more size list grown element long added sized =
    subst (All (λ (e : List ℤ). length e ≡ size)) (sym added)
    (All-append (λ (e : List ℤ). length e ≡ size) list (element ∷ []) sized (All-cons (λ (e : List ℤ). length e ≡ size) element [] long (All-nil (λ (e : List ℤ). length e ≡ size))))

-- there are as many pieces as are cut
pub length-pieces : (n size : ℕ) (words : List ℤ) → length (pieces n size words) ≡ n
length-pieces zero size words = refl
length-pieces (suc n) size words = ap suc (length-pieces n size (drop size words))
