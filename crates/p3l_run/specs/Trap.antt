-- The trap among outcomes.
use Rattle.std.specs.Prelude.{List, Option, None, Some, fold}
use Rattle.p3l_base.specs.declared.outcome.Outcome.{Outcome}
use Rattle.p3l_base.specs.declared.outcome.Outcome.TheVariants.{Value, Trapped}
use Rattle.p3l_base.specs.declared.outcome.Trap.{Trap}

-- the last trap after one more outcome
abbrev pub trap_after : Option Trap → Outcome → Option Trap
trap_after trap (Value words) = trap
trap_after trap (Trapped other) = Some other

-- the last trap of outcomes, if there is one
abbrev pub trap_of : List Outcome → Option Trap
trap_of outcomes = fold trap_after None outcomes
