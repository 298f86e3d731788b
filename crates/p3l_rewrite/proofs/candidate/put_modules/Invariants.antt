use Rattle.std.proofs.Common.{◌≡◌, ◌++◌, map, take}
use Rattle.p3l_ast.specs.Tree.{module_tree, entry_tree, defined}
use Rattle.p3l_rewrite.proofs.candidate.put_modules.Given as goal

abbrev pub invariant-loop-own : goal.invariant-loop-own
invariant-loop-own l = map entry_tree l.entries ≡ map entry_tree l.fn.entries ++ map (λ m. defined m) (map module_tree (take l.own-index l.modules))
