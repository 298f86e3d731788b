use Rattle.std.proofs.Common.{◌≡◌, map, drop}
use Rattle.p3l_ast.specs.Tree.{entry_tree}
use Rattle.p3l_check.specs.Resolving.{main_place}
use Rattle.p3l_check.proofs.resolving.main_place.Given as goal

-- the place among the entries that are left
abbrev pub invariant-loop-entry : goal.invariant-loop-entry
invariant-loop-entry l = main_place l.end (map entry_tree (drop l.entry-index l.entries)) ≡ main_place l.end (map entry_tree l.entries)
