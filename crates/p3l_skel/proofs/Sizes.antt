-- Sums and products over the first items of a list, and where arrays end.
use Rattle.std.proofs.Common.{◌≡◌, ℕ, zero, suc, ◌+◌, ◌*◌, ◌^◌, ◌<◌, ◌≤◌, ◌↔◌, List, [], ◌∷◌, take, drop, get_or, length, arith, ◌∙◌, add-one}
use Rattle.std.proofs.Math.Nat.{mul-le-mul, one-le-pow}
use Rattle.std.proofs.Math.Pow.{pow-add}
use Rattle.std.proofs.Math.Seq.{drop-cons}
use Rattle.std.proofs.lemmas.List.Elements.{All-head, All-tail}
use Rattle.std.specs.List.{All}
use Rattle.p3l_base.specs.declared.slice.Dim.{Dim}
use Rattle.p3l_base.specs.declared.slice.Place.{Place}
use Rattle.p3l_base.specs.declared.slice.Place.TheVariants.{Rest, First, Second}
use Rattle.p3l_base.specs.declared.slice.Slice.{Slice}
use Rattle.p3l_base.specs.Slice.{array_size, cut_size, taken_size}
use Rattle.p3l_base.specs.Cut.{FollowOneAnother}
use Rattle.p3l_skel.specs.Lawful.{IsSize}

-- the dimension that a loop reads past the last
abbrev pub no_dim : Dim
no_dim = record { size = 0; place = Rest }

-- a sum over a list that is written by recursion, at one item more
pub sum_more : {X : Type 0} (total : List X → ℕ) (part : X → ℕ) → total [] ≡ 0 → ((x : X) (xs : List X) → total (x ∷ xs) ≡ part x + total xs) → (xs : List X) (i : ℕ) (d : X) → i < length xs → total (take (suc i) xs) ≡ total (take i xs) + part (get_or xs i d)
sum_more total part none more [] i d inside = absurd (omega arith)
sum_more total part none more (x ∷ xs) zero d inside = rw (more x [], none) (omega arith)
sum_more total part none more (x ∷ xs) (suc i) d inside =
    let shorter : i < length xs = omega arith in
    rw (more x (take (suc i) xs), more x (take i xs), sum_more total part none more xs i d shorter) (omega arith)

-- a product of sizes up to 2 ^ 16 each, at one size more
bound_more : (size rest k : ℕ) → size ≤ 65536 → rest ≤ 2 ^ (16 * k) → size * rest ≤ 2 ^ (16 * suc k)
bound_more size rest k fits small =
    let e : 2 ^ (16 + 16 * k) ≡ 2 ^ 16 * 2 ^ (16 * k) = pow-add 2 16 (16 * k) in
    let here : 16 * suc k ≡ 16 + 16 * k = omega arith in
    rw (here, e) (mul-le-mul fits small)

-- an array of at most k sizes has at most 2 ^ (16 k) words
pub array_size-bound : (dims : List Dim) (k : ℕ) → length dims ≤ k → All (λ (d : Dim). IsSize d.size) dims → array_size dims ≤ 2 ^ (16 * k)
array_size-bound [] k few sizes = one-le-pow (16 * k) 2 (omega arith)
array_size-bound (d ∷ ds) zero few sizes = absurd (omega arith)
array_size-bound (d ∷ ds) (suc k) few sizes =
    let is_size = λ (x : Dim). IsSize x.size in
    let here = All-head is_size d ds sizes in
    bound_more d.size (array_size ds) k here.1 (array_size-bound ds k (omega arith) (All-tail is_size d ds sizes))

-- one cut takes no more indices than there are, and one of a free dimension
taken_size-bound : (place : Place) (size : ℕ) → IsSize size → taken_size place size ≤ 65536
taken_size-bound Rest size fits = fits.1
taken_size-bound First size fits = omega arith
taken_size-bound Second size fits = omega arith

-- and no more of one cut
pub cut_size-bound : (dims : List Dim) (k : ℕ) → length dims ≤ k → All (λ (d : Dim). IsSize d.size) dims → cut_size dims ≤ 2 ^ (16 * k)
cut_size-bound [] k few sizes = one-le-pow (16 * k) 2 (omega arith)
cut_size-bound (d ∷ ds) zero few sizes = absurd (omega arith)
cut_size-bound (d ∷ ds) (suc k) few sizes =
    let is_size = λ (x : Dim). IsSize x.size in
    let here = taken_size-bound d.place d.size (All-head is_size d ds sizes) in
    bound_more (taken_size d.place d.size) (cut_size ds) k here (cut_size-bound ds k (omega arith) (All-tail is_size d ds sizes))

pub FollowOneAnother-more : (slices : List Slice) (i start end : ℕ) (d : Slice) → i < length slices → start ≡ end → (get_or slices i d).start ≡ start → FollowOneAnother end (drop i slices) ↔ FollowOneAnother (end + array_size (get_or slices i d).dims) (drop (i + 1) slices)
FollowOneAnother-more slices i start end d inside same starts =
    rw (add-one, drop-cons slices i d inside) (λ all. all.1, λ all. (starts ∙ same, all))
