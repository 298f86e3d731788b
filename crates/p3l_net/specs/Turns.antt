-- Turns of tokens, as a tail decides them.
use Rattle.std.specs.Prelude.{◌≡◌, ℕ, ◌+◌, ◌<◌, ◌++◌, true, List, length, take, drop, slice_index_or}
use Rattle.p3l_base.specs.declared.outcome.Outcome.{Outcome}
use Rattle.p3l_base.specs.declared.outcome.Outcome.TheVariants.{Trapped}
use Rattle.p3l_firing.specs.declared.token.Token.{Token}
use Rattle.p3l_firing.specs.Token.{credit}
use Rattle.p3l_firing.specs.kinds.Tail.{has_number, pick_number, drop_number}
use Rattle.p3l_firing.specs.kinds.Tail as row
use Rattle.p3l_net.specs.declared.kinds.tail.Turn.{Turn}
use Rattle.p3l_net.specs.declared.kinds.tail.Turn.TheVariants.{Stays, Traps, Again}

-- of a token with this outcome
abbrev pub row_turn : Turn → Outcome → row.Turn
row_turn Stays body = row.Turn.Held body
row_turn (Traps trap) body = row.Turn.Held (Trapped trap)
row_turn Again body = row.Turn.Again

-- the token at place k is the first of those held that has this number
pub record IsDue (n : ℕ) (xs : List Token) (k : ℕ) : Type 0 where
  pub inside : k < length xs
  pub has : has_number n xs ≡ true
  pub token : pick_number n xs ≡ slice_index_or xs k credit
  pub rest : drop_number n xs ≡ take k xs ++ drop (k + 1) xs
