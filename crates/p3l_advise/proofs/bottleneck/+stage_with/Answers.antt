use Rattle.std.proofs.Common.{◌≡◌, ◌==◌, ℕ, List, Bool, true, false, ◌-◌, ◌<◌, ◌∙◌, refl, sym, ap, arith}
use Rattle.p3l_skel.specs.declared.tree.Node.{Node}
use Rattle.p3l_skel.specs.Counts.{outside_parts}
use Rattle.p3l_skel.specs.Tree.{node_at}
use Rattle.p3l_model.specs.Service.{service}
use Rattle.p3l_alloc.proofs.Outside.{first_outside, outside_inside, part_outside}
use Rattle.p3l_advise.specs.Bottleneck.{is_stage, stages_from}
use Rattle.p3l_advise.proofs.Stages.{find_here, find_next, stages_from-own, stages_from-pipe, stages_from-zero}
use Rattle.p3l_advise.proofs.bottleneck.+stage_with.Goals as goal

pub returns-in_default : goal.returns-in_default
returns-in_default t c =
    let inside = outside_inside c.args.tree.now c.args.number c.requires.tree (c.requires.outside c.args.number (first_outside c.args.tree.now c.args.levels c.args.number)) in
    absurd (omega (arith, inside, c.in_default.ensures.past))

pub takes_time-requires-clause-outside : goal.takes_time-requires-clause-outside
takes_time-requires-clause-outside t c = c.requires.outside c.args.number (first_outside c.args.tree.now c.args.levels c.args.number)

pub returns-then-levels-eq0 : goal.returns-then-levels-eq0
returns-then-levels-eq0 t c = rw (c.if-levels-eq0.true, stages_from-zero) c.takes_time.ensures

pub takes_time-requires-then-is_stage-clause-outside : goal.takes_time-requires-then-is_stage-clause-outside
takes_time-requires-then-is_stage-clause-outside t c = c.requires.outside c.args.number (first_outside c.args.tree.now c.args.levels c.args.number)

pub returns-then-is_stage : goal.returns-then-is_stage
returns-then-is_stage t c =
    let some : 0 < c.args.levels = omega (arith, c.if-levels-eq0.false) in
    let own : is_stage (node_at c.args.tree.now c.args.number).form ≡ true = ap (λ (n : Node). is_stage n.form) (sym c.in-Some.ensures.found) ∙ sym c.is_stage.ensures ∙ c.if-is_stage.true in
    rw (stages_from-own c.args.tree.now c.args.levels c.args.number some own) c.takes_time-then-is_stage.ensures

pub loop-part-init : goal.loop-part-init
loop-part-init t c =
    let some : 0 < c.args.levels = omega (arith, c.if-levels-eq0.false) in
    let pipe : is_stage (node_at c.args.tree.now c.args.number).form ≡ false = ap (λ (n : Node). is_stage n.form) (sym c.in-Some.ensures.found) ∙ sym c.is_stage.ensures ∙ c.if-is_stage.false in
    rw (stages_from-pipe c.args.tree.now c.args.levels c.args.number some pipe, ← c.in-Some.ensures.found, ← c.outside_parts-part-items.ensures) refl

pub stage_with-requires : goal.stage_with-requires
stage_with-requires t c =
    let tree = c.args.tree.now in
    let parts = c.outside_parts-part-items.result.now in
    let some : 0 < c.args.levels = omega (arith, c.if-levels-eq0.false) in
    let are : parts ≡ outside_parts (node_at tree c.args.number).form (node_at tree c.args.number).parts = rw (← c.in-Some.ensures.found) c.outside_parts-part-items.ensures in (
      omega (arith, c.decreases, some),
      (
        c.requires.tree,
        (
          c.requires.costs,
          (
            c.requires.counts,
            λ node there. c.requires.outside node (part_outside tree c.args.levels c.args.number c.loop-part.part-index node parts some are c.loop-part-test.true there),
          ),
        ),
      ),
    )

pub returns-in-Some-stage_with : goal.returns-in-Some-stage_with
returns-in-Some-stage_with t c =
    let test : ℕ → Bool = λ k. service c.args.tree.now c.args.costs.now c.args.counts.now.list k == c.args.time in
    let below : ℕ → List ℕ = stages_from c.args.tree.now (c.args.levels - 1) in
    sym (find_here test below c.outside_parts-part-items.result.now c.loop-part.part-index 0 c.in-Some-stage_with.found c.loop-part-test.true (sym c.stage_with.ensures ∙ c.in-Some-stage_with.is)) ∙ c.loop-part.invariant

pub loop-part-preserved : goal.loop-part-preserved
loop-part-preserved t c =
    let test : ℕ → Bool = λ k. service c.args.tree.now c.args.costs.now c.args.counts.now.list k == c.args.time in
    let below : ℕ → List ℕ = stages_from c.args.tree.now (c.args.levels - 1) in
    sym (find_next test below c.outside_parts-part-items.result.now c.loop-part.part-index 0 c.loop-part-test.true (sym c.stage_with.ensures ∙ c.in_default-stage_with.is)) ∙ c.loop-part.invariant
