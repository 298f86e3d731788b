-- Numbered tokens in any order, read in the order of their numbers. A token's number is its newest tag.
use Rattle.std.specs.Prelude.{◌≡◌, ℕ, zero, suc, ◌+◌, ◌≤◌, ◌<◌, Bool, true, ◌&&◌, cond, nat_eq, nat_le, nat_lt, List, [], ◌∷◌, ◌++◌, length}
use Rattle.p3l_firing.specs.Token.{newest_tag, untagged}
use Rattle.p3l_firing.specs.declared.token.Token.{Token}

-- the tokens with number k, without it
unfoldable pub look : ℕ → List Token → List Token
look k [] = []
look k (x ∷ xs) = cond (nat_eq (newest_tag x) k) (untagged x ∷ look k xs) (look k xs)

-- the tokens with the m numbers from c on, in the order of the numbers, without them
unfoldable pub read : List Token → ℕ → ℕ → List Token
read xs c zero = []
read xs c (suc m) = look c xs ++ read xs (suc c) m

-- each of the m numbers from c on occurs there once
unfoldable pub each_once : List Token → ℕ → ℕ → Bool
each_once xs c zero = true
each_once xs c (suc m) = nat_eq (length (look c xs)) 1 && each_once xs (suc c) m

-- all numbers lie from c up to d
unfoldable pub all_within : ℕ → ℕ → List Token → Bool
all_within c d [] = true
all_within c d (x ∷ xs) = (nat_le c (newest_tag x) && nat_lt (newest_tag x) d) && all_within c d xs

-- the numbers are those from c on, each once
abbrev pub numbered : List Token → ℕ → Bool
numbered xs c = each_once xs c (length xs) && all_within c (c + length xs) xs

-- the same, said of each number
pub record IsNumbered (xs : List Token) (c : ℕ) : Type 0 where
  pub once : (k : ℕ) → c ≤ k → k < c + length xs → length (look k xs) ≡ 1
  pub none : (k : ℕ) → (c ≤ k → c + length xs ≤ k) → length (look k xs) ≡ 0
