-- States that are alike where a row reads.
use Rattle.std.proofs.Common.{◌≡◌, ℕ, ℤ, cond, Bool, true, false, length, List, [], ◌∷◌, ◌++◌, Some, nat_lt, refl, ap}
use Rattle.std.specs.List.{AllByRecursion}
use Rattle.p3l_firing.specs.declared.net.Net.{Net}
use Rattle.p3l_firing.specs.Lists.{has_first, first_or, rest_of}
use Rattle.p3l_firing.specs.State.{State, has_room, chan_at, with_rest}

-- two states have the same tokens in these channels
abbrev pub SameIn : State → State → List ℕ → Type 0
SameIn s t = AllByRecursion (λ c. s.tokens c ≡ t.tokens c)

pub same-everywhere : (s t : State) → ((c : ℕ) → s.tokens c ≡ t.tokens c) → (cs : List ℕ) → SameIn s t cs
same-everywhere s t h [] = tt
same-everywhere s t h (c ∷ cs) = (h c, same-everywhere s t h cs)

pub room-same : (net : Net) (s t : State) (c : ℕ) → s.tokens c ≡ t.tokens c → has_room net s c ≡ has_room net t c
unfolding has_room
room-same net s t c e = ap (λ ts. nat_lt (length ts) (chan_at net c).cap) e

pub some_same : {A : Type 0} (x y : A) → Some x ≡ Some y → x ≡ y
some_same x y e = cc

-- the rest of the items is put after them in either case
pub with_rest-cond : (b : Bool) (x y : State) (rest : List (List ℤ)) → cond b (with_rest x rest) (with_rest y rest) ≡ with_rest (cond b x y) rest
with_rest-cond true x y rest = refl
with_rest-cond false x y rest = refl

pub first_of_more : {A : Type 0} (xs ys : List A) → (xs ≡ [] → ys ≡ []) → has_first (xs ++ ys) ≡ has_first xs
first_of_more [] ys h = ap has_first (h refl)
first_of_more (x ∷ xs) ys h = refl

pub first_with_more : {A : Type 0} (none : A) (xs ys : List A) → has_first xs ≡ true → first_or none (xs ++ ys) ≡ first_or none xs
first_with_more none [] ys h = cc
first_with_more none (x ∷ xs) ys h = refl

pub rest_with_more : {A : Type 0} (xs ys : List A) → has_first xs ≡ true → rest_of (xs ++ ys) ≡ rest_of xs ++ ys
rest_with_more [] ys h = cc
rest_with_more (x ∷ xs) ys h = refl
