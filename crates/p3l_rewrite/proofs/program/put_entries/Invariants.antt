use Rattle.std.proofs.Common.{◌≡◌, ◌++◌, map, take}
use Rattle.p3l_ast.specs.Tree.{entry_tree}
use Rattle.p3l_rewrite.proofs.program.put_entries.Given as goal

abbrev pub invariant-loop-own : goal.invariant-loop-own
invariant-loop-own l = map entry_tree l.entries ≡ map entry_tree l.fn.entries ++ map entry_tree (take l.own-index l.own)
