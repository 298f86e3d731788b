use Rattle.std.proofs.Common.{◌-◌, nat_lt, List, length, ap, ap₂, ◌∙◌}
use Rattle.p3l_base.specs.declared.cut.Cut.{Cut}
use Rattle.p3l_base.specs.Cut.{element_count}
use Rattle.p3l_skel.specs.declared.tree.Node.{Node}
use Rattle.p3l_firing.specs.declared.token.Token.{Token}
use Rattle.p3l_firing.specs.Nodes.{cut_of, last_element}
use Rattle.p3l_firing.specs.kinds.Gather.{is_full}
use Rattle.p3l_net.proofs.store.Store.has_all_results.Goals as goal

pub returns : goal.returns
unfolding is_full last_element
returns c =
    ap₂ nat_lt
    (c.last_element-last.ensures ∙ ap (λ (x : Cut). element_count x - 1) (c.cut_of.ensures ∙ ap (λ (x : Node). cut_of x.form) c.node.ensures))
    (ap (λ (xs : List Token). length xs) c.held.ensures)
