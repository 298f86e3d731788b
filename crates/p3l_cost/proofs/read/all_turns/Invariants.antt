use Rattle.std.proofs.Common.{◌≡◌, drop}
use Rattle.toml.specs.View.{table_view}
use Rattle.p3l_cost.specs.File.{all_turns}
use Rattle.p3l_cost.proofs.Modules.{turns_after}
use Rattle.p3l_cost.proofs.read.all_turns.Given as goal

-- the turns so far, with those of the rest
abbrev pub invariant-loop-home : goal.invariant-loop-home
invariant-loop-home l =
    turns_after l.tree (table_view l.document) l.turns l.home (drop l.home l.tree.modules) ≡ all_turns l.tree (table_view l.document) 0 l.tree.modules
