-- The place of the first element that passes a test.
use Rattle.std.proofs.Common.{◌≡◌, ℕ, ◌<◌, ◌≤◌, Bool, true, false, cond, ltb, List, length, Option, Some, None, unwrap_or, refl, arith}
use Rattle.std.specs.List.{position, position_or_len}
use Rattle.std.proofs.lemmas.Bool.{ltb-true}
use Rattle.std.proofs.lemmas.List.Sums.{prefix_len-le-length}

-- no place is past the end
pub position_or_len-le : {X : Type 0} (p : X → Bool) (xs : List X) → position_or_len p xs ≤ length xs
position_or_len-le p xs = prefix_len-le-length _ xs

found : (at size i : ℕ) (b : Bool) → ltb at size ≡ b → cond b (Some at) None ≡ Some i → (at ≡ i) × (at < size)
found at size i true below is = (cc, ltb-true at size below)
found at size i false below is = absurd cc

-- a place that was found is the first, within the list
pub position-some : {X : Type 0} (p : X → Bool) (xs : List X) (i : ℕ) → position p xs ≡ Some i → (position_or_len p xs ≡ i) × (position_or_len p xs < length xs)
position-some p xs i is = found (position_or_len p xs) (length xs) i _ refl is

missing : (at size : ℕ) (b : Bool) → ltb at size ≡ b → at ≤ size → ◌≡◌ {A = Option ℕ} (cond b (Some at) None) None → at ≡ size
missing at size true below within is = absurd cc
missing at size false below within is = grind arith

-- if none was found, the first place is the length
pub position-none : {X : Type 0} (p : X → Bool) (xs : List X) → position p xs ≡ None → position_or_len p xs ≡ length xs
position-none p xs is = missing (position_or_len p xs) (length xs) _ refl (position_or_len-le p xs) is

else_length : (at size : ℕ) (b : Bool) → ltb at size ≡ b → at ≤ size → unwrap_or (cond b (Some at) None) size ≡ at
else_length at size true below within = refl
else_length at size false below within = grind arith

-- the place found, and else the length
pub unwrap_or-position : {X : Type 0} (p : X → Bool) (xs : List X) → unwrap_or (position p xs) (length xs) ≡ position_or_len p xs
unwrap_or-position p xs = else_length (position_or_len p xs) (length xs) _ refl (position_or_len-le p xs)
