-- Sizes that are checked one after another, and products that stop at a limit.
use Rattle.std.proofs.Common.{◌≡◌, ℕ, zero, suc, ◌+◌, ◌*◌, ◌<◌, ◌≤◌, List, [], ◌∷◌, ◌++◌, length, get_or, drop, Result, Ok, Err, refl, sym, ap, ◌∙◌, append_assoc, arith}
use Rattle.std.specs.Prelude.{min}
use Rattle.std.proofs.lemmas.List.{append-nil, drop_more}
use Rattle.p3l_ast.specs.declared.refusal.SourceRefusal.{SourceRefusal}
use Rattle.p3l_ast.specs.declared.position.Spot.{Spot}
use Rattle.p3l_ast.specs.declared.port.Num.{Num}
use Rattle.p3l_ast.specs.declared.call.Sub.{Sub}
use Rattle.p3l_ast.specs.declared.call.Sub.TheVariants.{Whole, Free}
use Rattle.p3l_types.specs.Verdict.{given}
use Rattle.p3l_types.specs.Constants.{Constants}
use Rattle.p3l_types.specs.Shape.{product, size_of, sizes_of, whole_sizes}

-- the sizes that were found, followed by those still to be checked
abbrev pub sizes_after : Constants → List ℕ → ℕ → List Num → Result (List ℕ) SourceRefusal
sizes_after constants done k nums = given (sizes_of constants k nums) (λ rest. Ok (done ++ rest))

pub given-ok : {A : Type 0} (r : Result A SourceRefusal) → given r (λ x. Ok x) ≡ r
given-ok (Ok x) = refl
given-ok (Err e) = refl

pub sizes_after-none : (constants : Constants) (k : ℕ) (nums : List Num) → sizes_after constants [] k nums ≡ sizes_of constants k nums
sizes_after-none constants k nums = given-ok (sizes_of constants k nums)

joined : (done : List ℕ) (size : ℕ) (r : Result (List ℕ) SourceRefusal) → given (given r (λ sizes. Ok (size ∷ sizes))) (λ rest. Ok (done ++ rest)) ≡ given r (λ rest. Ok ((done ++ size ∷ []) ++ rest))
joined done size (Ok rest) = ap Ok (sym (append_assoc done (size ∷ []) rest))
joined done size (Err e) = refl

pub sizes_after-more : (constants : Constants) (done : List ℕ) (k size : ℕ) (num : Num) (nums : List Num) → size_of constants k num ≡ Ok size → sizes_after constants done k (num ∷ nums) ≡ sizes_after constants (done ++ size ∷ []) (k + 1) nums
sizes_after-more constants done k size num nums e = rw e (joined done size (sizes_of constants (k + 1) nums))

pub sizes_after-refused : (constants : Constants) (done : List ℕ) (k : ℕ) (num : Num) (nums : List Num) (e : SourceRefusal) → size_of constants k num ≡ Err e → sizes_after constants done k (num ∷ nums) ≡ Err e
sizes_after-refused constants done k num nums e h = rw h refl

pub sizes_after-all : (constants : Constants) (done : List ℕ) (k : ℕ) → sizes_after constants done k [] ≡ Ok done
sizes_after-all constants done k = ap Ok (append-nil done)

-- a product up to a limit, with the product of the rest up to that limit
pub min-mul-min : (s r m : ℕ) → min (s * min r m) m ≡ min (s * r) m
min-mul-min zero r m = omega arith
min-mul-min (suc s) r m = grind arith

-- one bracket more: an empty one keeps its size, and one with an index drops it
pub whole-kept : (left : List ℕ) (subs : List Sub) (sizes : List ℕ) (k : ℕ) (d : Sub) → k < length subs → k < length sizes → get_or subs k d ≡ Whole →
    (left ++ get_or sizes k 0 ∷ []) ++ whole_sizes (drop (k + 1) subs) (drop (k + 1) sizes) ≡ left ++ whole_sizes (drop k subs) (drop k sizes)
whole-kept left subs sizes k d h g e =
    rw (drop_more subs k d h, drop_more sizes k 0 g, e) (append_assoc left (get_or sizes k 0 ∷ []) (whole_sizes (drop (k + 1) subs) (drop (k + 1) sizes)))

pub whole-dropped : (left : List ℕ) (subs : List Sub) (sizes : List ℕ) (k : ℕ) (d : Sub) (index : Spot) → k < length subs → k < length sizes → get_or subs k d ≡ Free index →
    left ++ whole_sizes (drop (k + 1) subs) (drop (k + 1) sizes) ≡ left ++ whole_sizes (drop k subs) (drop k sizes)
whole-dropped left subs sizes k d index h g e = rw (drop_more subs k d h, drop_more sizes k 0 g, e) refl
