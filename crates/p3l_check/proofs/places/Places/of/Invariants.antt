use Rattle.std.proofs.Common.{map, take}
use Rattle.p3l_ast.specs.Tree.{entry_tree}
use Rattle.p3l_check.specs.Places.{ArePlaces}
use Rattle.p3l_check.proofs.places.Places.of.Given as goal

-- the table is that of the entries so far
abbrev pub invariant-loop-place : goal.invariant-loop-place
invariant-loop-place l = ArePlaces (map entry_tree (take l.place l.entries)) l.last.entries
