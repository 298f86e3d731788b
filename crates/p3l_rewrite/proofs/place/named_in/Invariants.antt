use Rattle.std.proofs.Common.{◌≡◌, map, drop}
use Rattle.p3l_ast.specs.Tree.{entry_tree}
use Rattle.p3l_rewrite.specs.Candidates.{named_in}
use Rattle.p3l_rewrite.proofs.place.named_in.Given as goal

-- the module is among the entries that are left
abbrev pub invariant-loop-entry : goal.invariant-loop-entry
invariant-loop-entry l = named_in (map entry_tree (drop l.entry-index l.entries)) l.name ≡ named_in (map entry_tree l.entries) l.name
