-- A stack, and the room that a code needs on it.
use Rattle.std.specs.Prelude.{ℕ, ℤ, ◌≤◌, List, length, min}
use Rattle.p3l_code.specs.declared.instr.Code.{Code}
use Rattle.p3l_base.specs.Limits.{most_stack}

-- words, the top first, and how many there is room for
pub record Stacked : Type 0 where
  pub words : List ℤ
  pub room : ℕ

-- as many words as there are instructions, since each puts at most one more there, and no more than
-- the rules let a stack have
abbrev pub HasRoom : Code → ℕ → Type 0
HasRoom code room = min (length code.instrs) most_stack ≤ room
