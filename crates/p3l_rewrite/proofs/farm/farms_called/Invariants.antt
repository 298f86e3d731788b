use Rattle.std.proofs.Common.{◌≡◌, map, take}
use Rattle.p3l_ast.specs.Tree.{module_tree}
use Rattle.p3l_rewrite.specs.Candidates.{farm_called}
use Rattle.p3l_rewrite.proofs.farm.farms_called.Given as goal

abbrev pub invariant-loop-call : goal.invariant-loop-call
invariant-loop-call l = l.called ≡ map (farm_called (map module_tree l.farms)) (take l.call-index l.calls)
