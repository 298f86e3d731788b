use Rattle.std.proofs.Common.{◌≡◌, map, take, drop, option_map}
use Rattle.p3l_ast.specs.Tree.{entry_tree}
use Rattle.p3l_rewrite.specs.Candidates.{around_main}
use Rattle.p3l_rewrite.proofs.Places.{after_all}
use Rattle.p3l_rewrite.proofs.place.around_main.Given as goal

-- `main` stands among the entries that are left
abbrev pub invariant-loop-place : goal.invariant-loop-place
invariant-loop-place l =
    around_main (map entry_tree l.entries)
    ≡ option_map (after_all (map entry_tree (take l.place l.entries))) (around_main (map entry_tree (drop l.place l.entries)))
