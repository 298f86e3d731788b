use Rattle.std.proofs.Common.{◌≡◌, ◌-◌, ◌<◌, ◌≤◌, ◌∙◌, ℕ, List, max, length, get_or, add-one, arith, refl, sym, subst}
use Rattle.std.proofs.lemmas.List.{take_all}
use Rattle.p3l_skel.specs.Tree.{node_at}
use Rattle.p3l_skel.specs.Counts.{count_of, outside_parts}
use Rattle.p3l_skel.proofs.Below.{node_at-past}
use Rattle.p3l_model.specs.NodeCost.{timed}
use Rattle.p3l_model.specs.Service.{service_by, service_row, greatest_by}
use Rattle.p3l_model.specs.Timed.{IsTimed}
use Rattle.p3l_model.proofs.Connect.{service_by-step}
use Rattle.p3l_model.proofs.Timed.{service_by-zero, timed_small, part_timed, greatest-more, some_worker}
use Rattle.p3l_model.proofs.service_time.+service_from.Goals as goal

pub returns-then-levels-eq0-clause-number : goal.returns-then-levels-eq0-clause-number
returns-then-levels-eq0-clause-number t c = rw (c.if-levels-eq0.true, service_by-zero) refl

pub returns-in_default-clause-number : goal.returns-in_default-clause-number
returns-in_default-clause-number t c =
    let some : 0 < c.args.levels = omega arith in
    let tree = c.args.tree.now in
    rw (service_by-step tree c.args.costs.now (count_of tree c.args.counts.now.list) c.args.levels c.args.number some, node_at-past tree c.args.number c.in_default.ensures.past) refl

pub service_from-requires : goal.service_from-requires
service_from-requires t c =
    let some : 0 < c.args.levels = omega arith in
    let tree = c.args.tree.now in
    let count : ℕ → ℕ = count_of tree c.args.counts.now.list in
    let parts_are : c.outside_parts-part-items.result.now ≡ outside_parts (node_at tree c.args.number).form (node_at tree c.args.number).parts = rw (← c.in-Some.ensures.found) c.outside_parts-part-items.ensures in
    let inside : c.loop-part.part-index < length (outside_parts (node_at tree c.args.number).form (node_at tree c.args.number).parts) = rw (← parts_are) c.loop-part-test.true in
    let part = part_timed tree c.args.costs.now c.requires.tree c.requires.costs count c.args.levels c.args.number c.loop-part.part-index some c.requires.timed inside in
    (omega (arith, c.decreases), (c.requires.tree, (c.requires.costs, subst (λ (ps : List ℕ). IsTimed tree c.args.costs.now count (c.args.levels - 1) (get_or ps c.loop-part.part-index 0)) (sym parts_are) part)))

pub loop-part-preserved : goal.loop-part-preserved
loop-part-preserved t c =
    let below : ℕ → ℕ = service_by c.args.tree.now c.args.costs.now (count_of c.args.tree.now c.args.counts.now.list) (c.args.levels - 1) in
    let more = greatest-more below c.outside_parts-part-items.result.now c.loop-part.part-index c.loop-part-test.true in
    let same : c.max-inner.result ≡ max c.loop-part.inner c.service_from.result = c.max-inner.ensures in
    record {
      slowest = rw add-one (omega (arith, same, c.loop-part.invariant.slowest, c.service_from.ensures.number, more));
      small = omega (arith, same, c.loop-part.invariant.small, c.service_from.ensures.small);
    }

pub service_over-requires-clause-workers : goal.service_over-requires-clause-workers
service_over-requires-clause-workers t c = λ own.
    let some : 0 < c.args.levels = omega arith in
    rw c.workers-count.ensures
    (some_worker c.args.tree.now c.args.costs.now (count_of c.args.tree.now c.args.counts.now.list) c.args.levels c.args.number some c.requires.timed (rw (← c.in-Some.ensures.found) own))

whole : (t : ℕ) (c : goal.After-service_over t) → c.service_over.result ≡ service_by c.args.tree.now c.args.costs.now (count_of c.args.tree.now c.args.counts.now.list) c.args.levels c.args.number
whole t c =
    let some : 0 < c.args.levels = omega arith in
    let tree = c.args.tree.now in
    let count : ℕ → ℕ = count_of tree c.args.counts.now.list in
    let below : ℕ → ℕ = service_by tree c.args.costs.now count (c.args.levels - 1) in
    let node = c.in-Some.node.now in
    let all : c.loop-part.inner ≡ greatest_by below (outside_parts node.form node.parts) =
    rw (← c.outside_parts-part-items.ensures, ← take_all c.loop-part.part-index c.outside_parts-part-items.result.now c.loop-part-test.false) c.loop-part.invariant.slowest in
    let made : c.service_over.result ≡ timed (service_row tree c.args.costs.now c.args.number node.form (count c.args.number) (greatest_by below (outside_parts node.form node.parts))) = rw (← all, ← c.workers-count.ensures) c.service_over.ensures in
    let step : service_by tree c.args.costs.now count c.args.levels c.args.number ≡ service_row tree c.args.costs.now c.args.number node.form (count c.args.number) (greatest_by below (outside_parts node.form node.parts)) = rw c.in-Some.ensures.found (service_by-step tree c.args.costs.now count c.args.levels c.args.number some) in
    let small = timed_small tree c.args.costs.now c.requires.tree c.requires.costs count c.args.levels c.args.number c.requires.timed in
    omega (arith, made, step, small)

pub returns-clause-number : goal.returns-clause-number
returns-clause-number t c = whole t c

pub returns-clause-small : goal.returns-clause-small
returns-clause-small t c =
    let small = timed_small c.args.tree.now c.args.costs.now c.requires.tree c.requires.costs (count_of c.args.tree.now c.args.counts.now.list) c.args.levels c.args.number c.requires.timed in
    omega (arith, small, whole t c)
