-- The trees of `main` and of the entries before and after it, without their places in memory.
use Rattle.std.specs.Prelude.{map}
use Rattle.std.specs.Borrow.{Bor}
use Rattle.p3l_ast.specs.declared.module.Module.{Module}
use Rattle.p3l_ast.specs.Tree.{ModuleTree, module_tree, entry_tree}
use Rattle.p3l_rewrite.specs.Candidates as trees
use Rattle.p3l_rewrite.specs.declared.place.Around.{Around}

abbrev pub around_tree : Around → trees.Around
around_tree a = record { front = map entry_tree a.front.now; main = module_tree a.main.now; back = map entry_tree a.back.now }

abbrev pub named_tree : Bor Module → ModuleTree
named_tree m = module_tree m.now
