-- A body that traps on each word.
use Rattle.std.specs.Prelude.{ℕ, ℤ, List}
use Rattle.p3l_base.specs.declared.outcome.Outcome.{Outcome}
use Rattle.p3l_base.specs.declared.outcome.Outcome.TheVariants.{Trapped}
use Rattle.p3l_base.specs.declared.outcome.TrapKind.TheVariants.{DivZero}
use Rattle.p3l_skel.specs.Tree.{GivesOuts}
use Rattle.p3l_sketch.specs.OneNode.{one_node}

-- the trap of a division by zero, whatever the words
abbrev pub refusing : ℕ → List ℤ → Outcome
refusing home words = Trapped (record { kind = DivZero; «module» = 0 })

-- it gives no value of another length, since it gives none
pub gives_none : GivesOuts one_node refusing
gives_none node words inside form fits = tt
