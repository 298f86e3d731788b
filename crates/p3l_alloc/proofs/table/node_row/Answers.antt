use Rattle.std.proofs.Common.{◌≡◌, ◌+◌, ℕ, List, subst, sym, ◌∙◌, ap, arith}
use Rattle.std.specs.Prelude.{slice_index}
use Rattle.p3l_skel.specs.Tree.{node_at}
use Rattle.p3l_model.specs.declared.cost.NodeCost.{NodeCost}
use Rattle.p3l_model.specs.declared.cost.NodeCost.TheVariants.{Stages}
use Rattle.p3l_model.specs.NodeCost.{node_cost}
use Rattle.p3l_model.specs.Costed.{costed, stages}
use Rattle.p3l_alloc.specs.Soonest.{IsRow, HasPart, over_part}
use Rattle.p3l_alloc.specs.Table.{row_in, IsRowFor, AreRows}
use Rattle.p3l_alloc.proofs.Rows.{given_more, part_ready, row_over, stages_are, stages_ready}
use Rattle.p3l_alloc.proofs.table.node_row.Goals as goal

pub returns-in-Stages : goal.returns-in-Stages
returns-in-Stages c =
    let tree = c.args.tree.now in
    let costs = c.args.costs.now in
    let is : node_cost tree costs c.args.node ≡ Stages = sym c.node_cost-cost.ensures ∙ c.in-Stages.is in
    given_more _ (IsRowFor tree costs c.args.most c.args.node) c.stages_row.result
    (λ row made slow.
    let parts = c.parts_of.ensures in
    let rows = stages_ready tree costs c.requires.tree c.requires.costs c.args.node c.args.most (c.args.node + 1) c.args.rows.now c.requires.node (omega arith) is c.requires.rows slow in
    subst (λ a. IsRow a c.args.most row) (sym (stages_are tree costs c.requires.tree c.requires.costs c.args.node c.requires.node is))
    (subst (λ (ps : List ℕ). IsRow (stages (costed tree costs) ps) c.args.most row) parts
    (made (costed tree costs) (subst (AreRows tree c.args.rows.now (costed tree costs) c.args.most) (sym parts) rows))))
    c.stages_row.ensures

pub returns-in_default : goal.returns-in_default
returns-in_default c =
    let tree = c.args.tree.now in
    let costs = c.args.costs.now in
    let cost : c.node_cost-cost.result ≡ node_cost tree costs c.args.node = c.node_cost-cost.ensures in
    let row : c.row_in.result.now ≡ row_in tree c.args.rows.now (slice_index (node_at tree c.args.node).parts 0) = c.row_in.ensures ∙ ap (row_in tree c.args.rows.now) c.first_part.ensures in
    let first : ℕ = slice_index (node_at tree c.args.node).parts 0 in
    given_more _ (IsRowFor tree costs c.args.most c.args.node) c.cost_row.result
    (λ made_row made slow.
    let part = part_ready tree costs c.requires.tree c.requires.costs c.args.node c.args.most (c.args.node + 1) c.args.rows.now c.requires.node (omega arith) c.requires.rows slow in
    let over = row_over tree costs c.requires.tree c.requires.costs c.args.node c.requires.node (λ is. c.in_default.not-Stages (cost ∙ is)) in
    subst (λ a. IsRow a c.args.most made_row) over
    (subst (λ (n : NodeCost). IsRow (over_part n (costed tree costs first)) c.args.most made_row) cost
    (made (costed tree costs first) (subst (λ (n : NodeCost). HasPart n (costed tree costs first) c.args.most c.row_in.result.now) (sym cost) (subst (HasPart (node_cost tree costs c.args.node) (costed tree costs first) c.args.most) (sym row) part)))))
    c.cost_row.ensures
