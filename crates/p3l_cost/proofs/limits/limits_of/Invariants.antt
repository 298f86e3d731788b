use Rattle.std.proofs.Common.{◌≡◌, ℕ, List, drop}
use Rattle.p3l_cost.specs.File.{limit_of}
use Rattle.p3l_cost.proofs.Modules.{limit_after}
use Rattle.p3l_cost.proofs.limits.limits_of.Given as goal

-- the modules so far, or else those of the rest
abbrev pub invariant-loop-home : goal.invariant-loop-home
invariant-loop-home l =
    (name : List ℕ) → limit_after l.section l.tree.nodes l.limits l.home (drop l.home l.tree.modules) name ≡ limit_of l.tree l.section name
