-- Places of channels among those of a process; no channel is there twice.
use Rattle.std.proofs.Common.{◌≡◌, ◌≢◌, ℕ, zero, suc, ◌+◌, ◌<◌, ◌≤◌, ◌%◌, ◌==◌, List, [], ◌∷◌, ◌++◌, length, Some, slice_get, get_or, cond, refl, sym, ap, subst, arith, inl, inr, eq-eqb}
use Rattle.std.specs.List.{AllByRecursion, flat_map}
use Rattle.std.proofs.lemmas.Bool.{cond-true}
use Rattle.std.proofs.lemmas.List.Sums.{sum_by-append, sum_by-cons}
use Rattle.p3l_firing.specs.declared.process.Proc.{Proc}
use Rattle.p3l_firing.specs.Process.{Has, times}

pub all-has : (P : ℕ → Type 0) (cs : List ℕ) → AllByRecursion P cs → (d : ℕ) → Has cs d → P d
all-has P [] all d h = elim h [ ]
all-has P (c ∷ cs) all d (inl e) = subst P e all.0
all-has P (c ∷ cs) all d (inr h) = all-has P cs all.1 d h

pub has-nth : (cs : List ℕ) (k : ℕ) → k < length cs → Has cs (get_or cs k 0)
has-nth [] k h = absurd (omega arith)
has-nth (c ∷ cs) zero h = inl refl
has-nth (c ∷ cs) (suc k) h = inr (has-nth cs k (omega arith))

pub has-each : (cs ds : List ℕ) → ((c : ℕ) → Has cs c → Has ds c) → (P : ℕ → Type 0) → ((c : ℕ) → Has ds c → P c) → AllByRecursion P cs
has-each [] ds h P f = tt
has-each (c ∷ cs) ds h P f = (f c (h c (inl refl)), has-each cs ds (λ d g. h d (inr g)) P f)

pub all-nth : (P : ℕ → Type 0) (cs : List ℕ) → AllByRecursion P cs → (k : ℕ) → k < length cs → P (get_or cs k 0)
all-nth P cs all k h = all-has P cs all (get_or cs k 0) (has-nth cs k h)

pub first_in : (cs : List ℕ) → cs ≡ get_or cs 0 0 ∷ [] → Has cs (get_or cs 0 0)
first_in [] e = cc
first_in (c ∷ cs) e = inl refl

pub mod_less : (n m : ℕ) → 0 < m → n % m < m
mod_less n m h = omega arith

-- a number that is in a list is counted
pub has_counted : (cs : List ℕ) (c : ℕ) → Has cs c → 1 ≤ times c cs
has_counted [] c h = elim h [ ]
has_counted (d ∷ cs) c h =
    let split : times c (d ∷ cs) ≡ cond (d == c) 1 0 + times c cs = sum_by-cons (λ x. cond (x == c) 1 0) d cs in
    elim h [
      | inl e ↦ let one : cond {A = ℕ} (d == c) 1 0 ≡ 1 = cond-true (d == c) 1 0 (eq-eqb d c e) in omega (arith, split, one)
      | inr later ↦ let rest = has_counted cs c later in omega (arith, split, rest)
    ]

-- one that comes first, and later again, is counted twice
pub twice_counted : (cs : List ℕ) (c : ℕ) → Has cs c → 2 ≤ times c (c ∷ cs)
twice_counted cs c h =
    let split : times c (c ∷ cs) ≡ cond (c == c) 1 0 + times c cs = sum_by-cons (λ x. cond (x == c) 1 0) c cs in
    let one : cond {A = ℕ} (c == c) 1 0 ≡ 1 = cond-true (c == c) 1 0 (eq-eqb c c refl) in
    let rest = has_counted cs c h in
    omega (arith, split, one, rest)

-- the channels of one process are counted among those of all
pub part_counted : (f : Proc → List ℕ) (xs : List Proc) (c i : ℕ) (x : Proc) → slice_get xs i ≡ Some x → times c (f x) ≤ times c (flat_map f xs)
part_counted f [] c i x e = cc
part_counted f (y ∷ ys) c zero x e =
    let split : times c (f y ++ flat_map f ys) ≡ times c (f y) + times c (flat_map f ys) = sum_by-append (λ z. cond (z == c) 1 0) (f y) (flat_map f ys) in
    let same : y ≡ x = cc in
    let here : times c (f y) ≡ times c (f x) = ap (λ z. times c (f z)) same in
    omega (arith, split, here)
part_counted f (y ∷ ys) c (suc i) x e =
    let split : times c (f y ++ flat_map f ys) ≡ times c (f y) + times c (flat_map f ys) = sum_by-append (λ z. cond (z == c) 1 0) (f y) (flat_map f ys) in
    let later = part_counted f ys c i x e in
    omega (arith, split, later)

-- the first channel of a process is none of its later ones if each channel is counted once
pub first_apart : (f : Proc → List ℕ) (xs : List Proc) (c i : ℕ) (x : Proc) (cs : List ℕ) → slice_get xs i ≡ Some x → f x ≡ c ∷ cs → times c (flat_map f xs) ≡ 1 → (d : ℕ) → Has cs d → c ≢ d
first_apart f xs c i x cs e is once d h = λ same.
    let twice : 2 ≤ times c (c ∷ cs) = twice_counted cs c (subst (Has cs) (sym same) h) in
    let part : times c (f x) ≤ times c (flat_map f xs) = part_counted f xs c i x e in
    let here : times c (f x) ≡ times c (c ∷ cs) = ap (times c) is in
    omega (arith, twice, part, here, once)
