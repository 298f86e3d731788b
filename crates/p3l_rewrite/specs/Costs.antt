-- Costs of the programs that a program may be rewritten to.
use Rattle.std.specs.Prelude.{◌≡◌, Ok}
use Rattle.std.specs.List.{AllByRecursion}
use Rattle.p3l_ast.specs.Tree.{ProgramTree}
use Rattle.p3l_skel.specs.declared.tree.Tree.{Tree}
use Rattle.p3l_skel.specs.Lawful.{IsLawfulTree}
use Rattle.p3l_check.specs.Resolving.{ResolvedTree, resolved}
use Rattle.p3l_cost.specs.declared.costs.Costs.{Costs}
use Rattle.p3l_cost.specs.Costs.{AreCostsOf}
use Rattle.p3l_rewrite.specs.Candidates.{others}
use Rattle.p3l_rewrite.specs.Rewriting.{costs_for}

-- the costs of a tree are costs of a program's tree, once the modules that are added have no ticks and one turn
abbrev pub KeepsCosts : Tree → Costs → ProgramTree → Type 0
KeepsCosts tree costs other =
    (s : ResolvedTree) → resolved other ≡ Ok s → IsLawfulTree s.tree → AreCostsOf s.tree (costs_for tree costs s.tree)

-- so are those of a program's tree, for each of the programs that it may be rewritten to
abbrev pub OthersKeepCosts : Type 0
OthersKeepCosts =
    (program : ProgramTree) (r : ResolvedTree) (costs : Costs) →
    resolved program ≡ Ok r → IsLawfulTree r.tree → AreCostsOf r.tree costs → AllByRecursion (KeepsCosts r.tree costs) (others program r.tree)
