-- Rows of channels that carry widths, in the order of their numbers.
use Rattle.std.proofs.Common.{◌≡◌, ℕ, zero, suc, ◌+◌, ◌*◌, ◌<◌, List, [], ◌∷◌, ◌++◌, length, get_or, map, replicate, subst, arith}
use Rattle.std.specs.List.{AllByRecursion}
use Rattle.p3l_firing.specs.Widths.{AllCarry, Carries, Widths}
use Rattle.p3l_template.specs.Shape.{numbers_from}
use Rattle.p3l_template.specs.Width.{width_at}
use Rattle.p3l_template.specs.declared.width.Width.{Width}
use Rattle.p3l_reduce.specs.ReduceKind.{segment_width}

-- the channels from number c on carry these widths
abbrev pub CarryRow : Widths → ℕ → List Width → Type 0
CarryRow w c [] = Unit {0}
CarryRow w c (x ∷ xs) = Carries w c x.words x.tags × CarryRow w (suc c) xs

pub row_append : (w : Widths) (c : ℕ) (xs ys : List Width) → CarryRow w c xs → CarryRow w (c + length xs) ys → CarryRow w c (xs ++ ys)
row_append w c [] ys left right = let e : c + 0 ≡ c = omega arith in subst (λ z. CarryRow w z ys) e right
row_append w c (x ∷ xs) ys left right =
    let e : c + suc (length xs) ≡ suc c + length xs = omega arith in
    (left.0, row_append w (suc c) xs ys left.1 (subst (λ z. CarryRow w z ys) e right))

pub row_at : (w : Widths) (c : ℕ) (row : List Width) (i : ℕ) → CarryRow w c row → i < length row →
    Carries w (c + i) (width_at row i).words (width_at row i).tags
row_at w c [] i all low = absurd (omega (arith, low))
row_at w c (x ∷ xs) zero all low = let e : c ≡ c + 0 = omega arith in subst (λ z. Carries w z x.words x.tags) e all.0
row_at w c (x ∷ xs) (suc i) all low =
    let e : suc c + i ≡ c + suc i = omega arith in
    subst (λ z. Carries w z (width_at xs i).words (width_at xs i).tags) e (row_at w (suc c) xs i all.1 (omega (arith, low)))

-- channels of one width
pub row_same : (w : Widths) (n c : ℕ) (a : Width) → AllCarry w (numbers_from c n) a.words a.tags → CarryRow w c (replicate n a)
unfolding numbers_from
row_same w zero c a all = tt
row_same w (suc n) c a all = (all.0, row_same w n (suc c) a all.1)

-- channels of segments
pub row_segments : (w : Widths) (elem t c : ℕ) (ls : List ℕ) →
    ((j : ℕ) → j < length ls → Carries w (c + j) (get_or ls j 0 * elem) t) → CarryRow w c (map (segment_width elem t) ls)
row_segments w elem t c [] each = tt
row_segments w elem t c (l ∷ ls) each =
    let e : c + 0 ≡ c = omega arith in (
      subst (λ z. Carries w z (l * elem) t) e (each 0 (omega arith)),
      row_segments w elem t (suc c) ls (λ j low.
          let f : c + suc j ≡ suc c + j = omega arith in
          subst (λ z. Carries w z (get_or ls j 0 * elem) t) f (each (suc j) (omega (arith, low)))),
    )

-- a property of all numbers from c on holds of each
pub number_at : (P : ℕ → Type 0) (n c v : ℕ) → AllByRecursion P (numbers_from c n) → v < n → P (c + v)
unfolding numbers_from
number_at P zero c v all low = absurd (omega (arith, low))
number_at P (suc n) c zero all low = let e : c ≡ c + 0 = omega arith in subst P e all.0
number_at P (suc n) c (suc v) all low =
    let e : suc c + v ≡ c + suc v = omega arith in subst P e (number_at P n (suc c) v all.1 (omega (arith, low)))

-- a property of all of two lists holds of all of each
pub all_split : {A : Type 0} (P : A → Type 0) (xs ys : List A) → AllByRecursion P (xs ++ ys) → AllByRecursion P xs × AllByRecursion P ys
all_split P [] ys all = (tt, all)
all_split P (x ∷ xs) ys all = let rest = all_split P xs ys all.1 in ((all.0, rest.0), rest.1)
