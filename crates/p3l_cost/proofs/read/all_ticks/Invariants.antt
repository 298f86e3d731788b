use Rattle.std.proofs.Common.{◌≡◌, drop}
use Rattle.toml.specs.View.{table_view}
use Rattle.p3l_cost.specs.File.{all_ticks}
use Rattle.p3l_cost.proofs.Modules.{ticks_after}
use Rattle.p3l_cost.proofs.read.all_ticks.Given as goal

-- the ticks so far, with those of the rest
abbrev pub invariant-loop-home : goal.invariant-loop-home
invariant-loop-home l =
    ticks_after l.tree (table_view l.document) l.ticks l.home (drop l.home l.tree.modules) ≡ all_ticks l.tree (table_view l.document) 0 l.tree.modules
