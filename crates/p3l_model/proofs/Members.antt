-- Elements of lists.
use Rattle.std.proofs.Common.{◌≡◌, ℕ, zero, suc, ◌+◌, ◌<◌, ◌⊎◌, List, [], ◌∷◌, length, get_or, take, refl, sym, arith, inl, inr}
use Rattle.std.specs.List.{Contains, flat_map}
use Rattle.std.proofs.lemmas.List.{take_more, append-nil}
use Rattle.std.proofs.lemmas.List.Concat.{flat_map-append}
use Rattle.std.proofs.lemmas.List.Elements.{Contains-append_left, Contains-append_right, Contains-append_cases}

pub Contains-cons_cases : (y : ℕ) (ys : List ℕ) (x : ℕ) → Contains (y ∷ ys) x → (x ≡ y) ⊎ Contains ys x
Contains-cons_cases y ys x (zero, here, is) = inl (sym is)
Contains-cons_cases y ys x (suc k, here, is) = inr (k, omega arith, is)

pub Contains-nil : (x : ℕ) → Contains [] x → ⊥
Contains-nil x (k, here, is) = omega arith

pub Contains-head : (y : ℕ) (ys : List ℕ) → Contains (y ∷ ys) y
Contains-head y ys = (0, omega arith, refl)

-- a member from the first items is one from all
pub Contains-flat_map_take : (f : ℕ → List ℕ) (n : ℕ) (ys : List ℕ) (x : ℕ) → Contains (flat_map f (take n ys)) x → Contains (flat_map f ys) x
Contains-flat_map_take f zero ys x h = absurd (Contains-nil x h)
Contains-flat_map_take f (suc n) [] x h = absurd (Contains-nil x h)
Contains-flat_map_take f (suc n) (y ∷ ys) x h =
    elim (Contains-append_cases (f y) (flat_map f (take n ys)) x h) [
      | inl first ↦ Contains-append_left (f y) (flat_map f ys) x first
      | inr later ↦ Contains-append_right (f y) (flat_map f ys) x (Contains-flat_map_take f n ys x later)
    ]

-- a member from one of the items is one from all
pub Contains-flat_map : (f : ℕ → List ℕ) (ys : List ℕ) (i d x : ℕ) → i < length ys → Contains (f (get_or ys i d)) x → Contains (flat_map f ys) x
Contains-flat_map f [] i d x below h = absurd (omega arith)
Contains-flat_map f (y ∷ ys) zero d x below h = Contains-append_left (f y) (flat_map f ys) x h
Contains-flat_map f (y ∷ ys) (suc i) d x below h = Contains-append_right (f y) (flat_map f ys) x (Contains-flat_map f ys i d x (omega arith) h)

-- a member from one item more comes from it or from those before
pub Contains-flat_map_more : (f : ℕ → List ℕ) (ys : List ℕ) (i d x : ℕ) → i < length ys → Contains (flat_map f (take (i + 1) ys)) x → Contains (flat_map f (take i ys)) x ⊎ Contains (f (get_or ys i d)) x
Contains-flat_map_more f ys i d x below h =
    let last = get_or ys i d in
    let split = rw (take_more ys i d below, flat_map-append, append-nil) at h in
    Contains-append_cases (flat_map f (take i ys)) (f last) x split

pub Contains-tail : (y : ℕ) (ys : List ℕ) (x : ℕ) → Contains ys x → Contains (y ∷ ys) x
Contains-tail y ys x (k, here, is) = (suc k, omega arith, is)
