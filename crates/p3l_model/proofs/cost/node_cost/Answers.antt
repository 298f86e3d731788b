use Rattle.std.proofs.Common.{refl, ap, ◌∙◌}
use Rattle.p3l_skel.specs.declared.tree.Node.{Node}
use Rattle.p3l_skel.proofs.Below.{node_at-past}
use Rattle.p3l_model.specs.NodeCost.{node_cost, node_cost_row}
use Rattle.p3l_model.proofs.cost.node_cost.Goals as goal

pub returns-in-Some : goal.returns-in-Some
unfolding node_cost
returns-in-Some c =
    c.cost_over.ensures ∙ ap (λ (n : Node). node_cost_row c.args.tree.now c.args.costs.now c.args.number n.form) c.in-Some.ensures.found

pub returns-in-None : goal.returns-in-None
unfolding node_cost
returns-in-None c = rw (node_at-past c.args.tree.now c.args.number c.in-None.ensures.past) refl
