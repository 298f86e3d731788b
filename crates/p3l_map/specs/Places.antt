-- Tokens in n lines, of which place c is the first of line spot c.
use Rattle.std.specs.Prelude.{ℕ, zero, suc, ◌+◌, not, ◌&&◌, Bool, true, cond, nat_eq, List, [], ◌∷◌, ◌++◌, length}
use Rattle.p3l_firing.specs.Lists.{first_or, rest_of, has_first}
use Rattle.p3l_firing.specs.At.{at}
use Rattle.p3l_firing.specs.Token.{credit}
use Rattle.p3l_firing.specs.declared.token.Token.{Token}

-- the tokens of m places from c on
unfoldable pub read_by : (ℕ → List Token) → (ℕ → ℕ) → ℕ → ℕ → List Token
read_by L spot c zero = []
read_by L spot c (suc m) = first_or credit (L (spot c)) ∷ read_by (at L (spot c) (rest_of (L (spot c)))) spot (suc c) m

unfoldable pub all_empty : (ℕ → List Token) → ℕ → Bool
all_empty L zero = true
all_empty L (suc n) = not (has_first (L n)) && all_empty L n

-- the n lines hold m tokens, one for each place from c on
unfoldable pub in_by : (ℕ → List Token) → (ℕ → ℕ) → ℕ → ℕ → ℕ → Bool
in_by L spot n c zero = all_empty L n
in_by L spot n c (suc m) = has_first (L (spot c)) && in_by (at L (spot c) (rest_of (L (spot c)))) spot n (suc c) m

unfoldable pub total : (ℕ → List Token) → ℕ → ℕ
total L zero = 0
total L (suc n) = length (L n) + total L n

-- pieces cut into groups of n, after those of the group so far
unfoldable pub groups : ℕ → List Token → List Token → List (List Token)
groups n acc [] = []
groups n acc (x ∷ xs) =
    cond (nat_eq (suc (length acc)) n) ((acc ++ x ∷ []) ∷ groups n [] xs) (groups n (acc ++ x ∷ []) xs)

-- the pieces in the last, incomplete group
unfoldable pub left : ℕ → List Token → List Token → List Token
left n acc [] = acc
left n acc (x ∷ xs) = cond (nat_eq (suc (length acc)) n) (left n [] xs) (left n (acc ++ x ∷ []) xs)
