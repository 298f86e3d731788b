use Rattle.std.proofs.Common.{◌≤◌, ◌*◌, ◌/◌, ◌^◌, ap, ap₂, arith, sym, subst, ◌∙◌}
use Rattle.std.proofs.Math.Nat.{mul-div_cancel_left}
use Rattle.p3l_skel.specs.Tree.{node_at}
use Rattle.p3l_scan.specs.Plan.{plan_tree}
use Rattle.p3l_scan.specs.Step.{IsOperator}
use Rattle.p3l_scan.specs.laws.Nodes.{root_is}
use Rattle.p3l_scan.specs.laws.Powers.{power_pos}
use Rattle.p3l_scan.proofs.Scannable.{log_is, operator_is, small, some_size}
use Rattle.p3l_scan.proofs.units.ScanUnits.new.Goals as goal

pub invariant_of-result : goal.invariant_of-result
invariant_of-result g c =
    let plan = c.requires.planned in
    let can = plan.can in
    let tree = g.U.Units.tree c.args.inner in
    let segments = c.args.plan.now.segments in
    let levels = log_is tree c.requires.lawful segments can c.ilog2.result
    (omega (arith, c.ilog2.ensures.power_le)) (omega (arith, c.ilog2.ensures.next_power_gt)) in
    let words = ap (λ z. z / segments)
    (c.root_words.ensures ∙ ap (λ t. (node_at t 0).ins) plan.tree_is ∙ ap (λ n. n.ins) (root_is can.levels (can.size * can.elem))
    ∙ ap (λ z. z * (can.size * can.elem)) (sym can.power))
    ∙ mul-div_cancel_left (can.size * can.elem) (omega (arith, can.power, power_pos can.levels)) in
    record {
      operator = subst (λ o. IsOperator tree o c.args.plan.now.elem) (sym plan.op_is)
          (subst (IsOperator tree _) (sym plan.elem_is) (operator_is tree c.requires.lawful segments can));
      few = omega (arith, levels, can.few);
      size = can.size;
      some_size = some_size tree c.requires.lawful segments can;
      sized = words ∙ ap (λ z. can.size * z) (sym plan.elem_is);
      small = subst (λ z. z ≤ 65536) (ap₂ (λ k w. 2 ^ k * w) levels (sym words)) (small tree c.requires.lawful segments can);
    }

pub returns-clause-tree : goal.returns-clause-tree
returns-clause-tree g c =
    let plan = c.requires.planned in
    let can = plan.can in
    let tree = g.U.Units.tree c.args.inner in
    let segments = c.args.plan.now.segments in
    let levels = log_is tree c.requires.lawful segments can c.ilog2.result
    (omega (arith, c.ilog2.ensures.power_le)) (omega (arith, c.ilog2.ensures.next_power_gt)) in
    let words = ap (λ z. z / segments)
    (c.root_words.ensures ∙ ap (λ t. (node_at t 0).ins) plan.tree_is ∙ ap (λ n. n.ins) (root_is can.levels (can.size * can.elem))
    ∙ ap (λ z. z * (can.size * can.elem)) (sym can.power))
    ∙ mul-div_cancel_left (can.size * can.elem) (omega (arith, can.power, power_pos can.levels)) in
    ap₂ plan_tree (sym levels) words ∙ sym plan.tree_is
