use Rattle.std.proofs.Common.{◌≡◌, None, subst}
use Rattle.p3l_base.specs.Memory.{IfGiven}
use Rattle.p3l_base.specs.declared.cut.Cut.{Cut}
use Rattle.p3l_skel.specs.declared.tree.Form.TheVariants.{Map}
use Rattle.p3l_skel.specs.declared.tree.ModuleKind.TheVariants as kind
use Rattle.p3l_network_tests.specs.WithPart.{with_part}
use Rattle.p3l_network_tests.proofs.with_part.tree_of_map.Goals as goal

pub returns : goal.returns
returns c =
    subst (λ (x : Cut). IfGiven c.tree_of.result (λ tree. tree ≡ with_part (Map None x) kind.Map 4 4 1 1)) c.in_ok-cut_of_four.ensures c.tree_of.ensures
