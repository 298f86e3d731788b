use Rattle.std.proofs.Common.{◌≤◌, ◌*◌, ◌/◌, ◌^◌, ap, ap₂, arith, refl, slice_index, sym, subst, subst₂, ◌∙◌}
use Rattle.p3l_scan.specs.Plan.{counts_of, plan_tree}
use Rattle.p3l_skel.specs.Counts.{HasLawfulCounts}
use Rattle.p3l_skel.specs.Lawful.{IsLawfulTree}
use Rattle.p3l_skel.specs.Numbers.{procs}
use Rattle.p3l_scan.proofs.Lawful.{counts_lawful, plan_lawful, procs_few}
use Rattle.p3l_scan.proofs.Scannable.{log_is, one_reduce, size_is, small, some_words}
use Rattle.p3l_scan.proofs.plan.scan_plan.Goals as goal

pub plan_tree-requires-clause-few : goal.plan_tree-requires-clause-few
plan_tree-requires-clause-few c =
    let can = c.requires.can in
    let levels = log_is c.args.tree.now c.requires.lawful c.args.segments can c.ilog2-levels.result
    (omega (arith, c.ilog2-levels.ensures.power_le)) (omega (arith, c.ilog2-levels.ensures.next_power_gt)) in
    omega (arith, levels, can.few)

pub plan_tree-requires-clause-small : goal.plan_tree-requires-clause-small
plan_tree-requires-clause-small c =
    let can = c.requires.can in
    let levels = log_is c.args.tree.now c.requires.lawful c.args.segments can c.ilog2-levels.result
    (omega (arith, c.ilog2-levels.ensures.power_le)) (omega (arith, c.ilog2-levels.ensures.next_power_gt)) in
    let same = one_reduce _ _ _ _ _ _ (sym can.form ∙ ap (λ n. n.form) (sym c.in-Some.ensures.found) ∙ c.in-Reduce.is) in
    let words = ap₂ (λ l e. l / c.args.segments * e) (sym same.0) (sym same.1)
    ∙ ap (λ z. z * can.elem) (size_is c.args.tree.now c.requires.lawful c.args.segments can) in
    subst (λ z. z ≤ 65536) (ap₂ (λ k w. 2 ^ k * w) levels (sym words))
    (small c.args.tree.now c.requires.lawful c.args.segments can)

pub plan_counts-requires : goal.plan_counts-requires
plan_counts-requires c =
    let can = c.requires.can in
    let levels = log_is c.args.tree.now c.requires.lawful c.args.segments can c.ilog2-levels.result
    (omega (arith, c.ilog2-levels.ensures.power_le)) (omega (arith, c.ilog2-levels.ensures.next_power_gt)) in
    record { few = omega (arith, levels, can.few) }

pub returns-clause-planned : goal.returns-clause-planned
returns-clause-planned c =
    let can = c.requires.can in
    let levels = log_is c.args.tree.now c.requires.lawful c.args.segments can c.ilog2-levels.result
    (omega (arith, c.ilog2-levels.ensures.power_le)) (omega (arith, c.ilog2-levels.ensures.next_power_gt)) in
    let same = one_reduce _ _ _ _ _ _ (sym can.form ∙ ap (λ n. n.form) (sym c.in-Some.ensures.found) ∙ c.in-Reduce.is) in
    let words = ap₂ (λ l e. l / c.args.segments * e) (sym same.0) (sym same.1)
    ∙ ap (λ z. z * can.elem) (size_is c.args.tree.now c.requires.lawful c.args.segments can) in
    record {
      can = can;
      tree_is = c.in_ok-tree.ensures ∙ sym (ap₂ plan_tree levels (sym words));
      counts_are = c.in_ok-counts.ensures ∙ sym (ap counts_of levels);
      op_is = c.part.ensures ∙ ap (λ n. slice_index n.parts 0) c.in-Some.ensures.found;
      elem_is = sym same.1;
      segments_are = refl;
    }

pub returns-clause-runs : goal.returns-clause-runs
returns-clause-runs c =
    let can = c.requires.can in
    let tree = c.args.tree.now in
    let levels = log_is tree c.requires.lawful c.args.segments can c.ilog2-levels.result
    (omega (arith, c.ilog2-levels.ensures.power_le)) (omega (arith, c.ilog2-levels.ensures.next_power_gt)) in
    let same = one_reduce _ _ _ _ _ _ (sym can.form ∙ ap (λ n. n.form) (sym c.in-Some.ensures.found) ∙ c.in-Reduce.is) in
    let words = ap₂ (λ l e. l / c.args.segments * e) (sym same.0) (sym same.1)
    ∙ ap (λ z. z * can.elem) (size_is tree c.requires.lawful c.args.segments can) in
    let tree_is = c.in_ok-tree.ensures ∙ sym (ap₂ plan_tree levels (sym words)) in
    let counts_are = c.in_ok-counts.ensures ∙ sym (ap counts_of levels) in
    let w = can.size * can.elem in
    let some = some_words tree c.requires.lawful c.args.segments can in
    let few_words = small tree c.requires.lawful c.args.segments can in
    record {
      tree = subst IsLawfulTree (sym tree_is) (plan_lawful can.levels w can.few some few_words);
      counts = subst₂ HasLawfulCounts (sym tree_is) (sym counts_are) (counts_lawful can.levels w can.few some few_words);
      procs = subst₂ (λ t ns. procs t ns 0 ≤ 4096) (sym tree_is) (sym counts_are) (procs_few can.levels w can.few some few_words);
    }
