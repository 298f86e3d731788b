-- Numbered tokens, put into slots by their numbers.
use Rattle.std.specs.Prelude.{◌≡◌, ℕ, ◌+◌, ◌≤◌, ◌<◌, Option, Some, None, cond, List, [], ◌∷◌, length, get_or}
use Rattle.p3l_firing.specs.declared.token.Token.{Token}
use Rattle.p3l_template.specs.Bag.{look, read, numbered}
use Rattle.p3l_template.specs.Finding.{bares}

-- the tokens in the order of their numbers, without these and without their outcomes, where the numbers are those from c
-- on, each once
unfoldable pub ordered : List Token → ℕ → Option (List Token)
ordered xs c = cond (numbered xs c) (Some (bares (read xs c (length xs)))) None

-- the token of a slot
unfoldable pub listed : Option Token → List Token
listed None = []
listed (Some x) = x ∷ []

-- the slots have these tokens, each in the one of its number from c on, without it and without its outcome
pub record AreSlotted (c : ℕ) (slots : List (Option Token)) (xs : List Token) : Type 0 where
  pub each : (k : ℕ) → k < length slots → listed (get_or slots k None) ≡ bares (look (c + k) xs)
  pub none : (k : ℕ) → (c ≤ k → c + length slots ≤ k) → length (look k xs) ≡ 0
