-- The round robin.
use Rattle.std.specs.Prelude.{ℕ, ℤ, zero, suc, ◌+◌, ◌%◌, List, [], ◌∷◌, Option, find, length}
use Rattle.p3l_ready.specs.Flags.{in_turn}
use Rattle.std.specs.Option.{option_map_or}
use Rattle.p3l_base.specs.declared.outcome.Outcome.{Outcome}
use Rattle.p3l_skel.specs.declared.tree.Tree.{Tree}
use Rattle.p3l_firing.specs.declared.net.Net.{Net}
use Rattle.p3l_firing.specs.State.{State}
use Rattle.p3l_firing.specs.Fire.{can_fire, fire}

-- the first process at or after `from`, cyclically, that can fire
abbrev pub next_of : Tree → Net → State → ℕ → Option ℕ
next_of tree net s from = find (can_fire tree net s) (in_turn (length net.procs) from)

-- the one after process p, cyclically
abbrev pub after : Net → ℕ → ℕ
after net p = (p + 1) % length net.procs

-- the picks of the round robin from a state, with the cursor at `from`: each is the next process that can fire, and sets the
-- cursor to the one after it; they end at the first state in which nothing can fire, after at most `most` picks
unfoldable pub round_robin : Tree → (ℕ → List ℤ → Outcome) → Net → ℕ → State → ℕ → List ℕ
round_robin tree leaf net zero s from = []
round_robin tree leaf net (suc most) s from =
    option_map_or (λ p. p ∷ round_robin tree leaf net most (fire tree leaf net s p) (after net p))
    (next_of tree net s from) []
