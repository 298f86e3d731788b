use Rattle.std.proofs.Common.{◌≡◌, ℕ, List, true, false, ◌++◌, ◌+◌, ◌-◌, ◌<◌, ◌∙◌, refl, sym, ap, subst, arith, length, get_or}
use Rattle.std.specs.Prelude.{string_bytes}
use Rattle.p3l_skel.specs.declared.tree.Node.{Node}
use Rattle.p3l_skel.specs.Counts.{outside_parts}
use Rattle.p3l_skel.specs.Tree.{node_at}
use Rattle.p3l_alloc.specs.Walk.{IsWithin}
use Rattle.p3l_alloc.proofs.Added.{within_some, within_parts}
use Rattle.p3l_alloc.proofs.Outside.{first_outside, outside_inside, part_outside}
use Rattle.p3l_advise.specs.Bottleneck.{is_stage, stages_from}
use Rattle.p3l_advise.specs.Help.{stage_help}
use Rattle.p3l_advise.proofs.Stages.{pipe_parts, stages_from-own, stages_from-pipe, one_more, texts_after, texts_step}
use Rattle.p3l_advise.proofs.help.+put_stages.Goals as goal

pub returns-then-levels-eq0 : goal.returns-then-levels-eq0
returns-then-levels-eq0 t c = absurd (within_some c.args.tree.now c.args.levels c.args.number c.requires.levels c.if-levels-eq0.true)

pub returns-in_default : goal.returns-in_default
returns-in_default t c =
    let inside = outside_inside c.args.tree.now c.args.number c.requires.tree (c.requires.outside c.args.number (first_outside c.args.tree.now c.args.levels c.args.number)) in
    absurd (omega (arith, inside, c.in_default.ensures.past))

pub put_slow-requires-clause-outside : goal.put_slow-requires-clause-outside
put_slow-requires-clause-outside t c = c.requires.outside c.args.number (first_outside c.args.tree.now c.args.levels c.args.number)

pub put_slow-requires-clause-parts : goal.put_slow-requires-clause-parts
put_slow-requires-clause-parts t c = λ i inside.
    let tree = c.args.tree.now in
    let some : 0 < c.args.levels = omega (arith, c.if-levels-eq0.false) in
    let node = c.in-Some.node.now in
    let parts : List ℕ = outside_parts node.form node.parts in
    let are : parts ≡ outside_parts (node_at tree c.args.number).form (node_at tree c.args.number).parts = ap (λ (n : Node). outside_parts n.form n.parts) c.in-Some.ensures.found in
    let part : ℕ = get_or parts i 0 in
    c.requires.outside part (part_outside tree c.args.levels c.args.number i part parts some are inside (first_outside tree (c.args.levels - 1) part))

pub returns-then-is_stage : goal.returns-then-is_stage
returns-then-is_stage t c =
    let some : 0 < c.args.levels = omega (arith, c.if-levels-eq0.false) in
    let own : is_stage (node_at c.args.tree.now c.args.number).form ≡ true = ap (λ (n : Node). is_stage n.form) (sym c.in-Some.ensures.found) ∙ sym c.is_stage.ensures ∙ c.if-is_stage.true in
    rw (stages_from-own c.args.tree.now c.args.levels c.args.number some own)
    (one_more (string_bytes c.args.text.now) (stage_help c.args.tree.now c.args.costs.now c.args.counts.now.list c.args.idle c.args.time) c.args.number c.put_slow.result _ c.put_slow.ensures)

pub loop-part-init : goal.loop-part-init
loop-part-init t c =
    let some : 0 < c.args.levels = omega (arith, c.if-levels-eq0.false) in
    let pipe : is_stage (node_at c.args.tree.now c.args.number).form ≡ false = ap (λ (n : Node). is_stage n.form) (sym c.in-Some.ensures.found) ∙ sym c.is_stage.ensures ∙ c.if-is_stage.false in
    rw (stages_from-pipe c.args.tree.now c.args.levels c.args.number some pipe, ← c.in-Some.ensures.found, ← c.outside_parts-part-items.ensures) refl

pub put_stages-requires : goal.put_stages-requires
put_stages-requires t c =
    let tree = c.args.tree.now in
    let parts = c.outside_parts-part-items.result.now in
    let i : ℕ = c.loop-part.part-index in
    let some : 0 < c.args.levels = omega (arith, c.if-levels-eq0.false) in
    let are : parts ≡ outside_parts (node_at tree c.args.number).form (node_at tree c.args.number).parts = rw (← c.in-Some.ensures.found) c.outside_parts-part-items.ensures in
    let pipe : is_stage (node_at tree c.args.number).form ≡ false = ap (λ (n : Node). is_stage n.form) (sym c.in-Some.ensures.found) ∙ sym c.is_stage.ensures ∙ c.if-is_stage.false in
    let all : parts ≡ (node_at tree c.args.number).parts = are ∙ pipe_parts (node_at tree c.args.number).form (node_at tree c.args.number).parts pipe in
    let inside : i < length (node_at tree c.args.number).parts = subst (λ (ps : List ℕ). i < length ps) all c.loop-part-test.true in
    let deep = within_parts tree c.args.levels c.args.number i 0 some c.requires.levels inside in (
      omega (arith, c.decreases, some),
      (
        c.requires.tree,
        (
          c.requires.costs,
          (
            c.requires.counts,
            (
              subst (λ (ps : List ℕ). IsWithin tree (c.args.levels - 1) (get_or ps i 0)) (sym all) deep,
              λ node there. c.requires.outside node (part_outside tree c.args.levels c.args.number i node parts some are c.loop-part-test.true there),
            ),
          ),
        ),
      ),
    )

pub loop-part-preserved : goal.loop-part-preserved
loop-part-preserved t c =
    let help : ℕ → List ℕ = stage_help c.args.tree.now c.args.costs.now c.args.counts.now.list c.args.idle c.args.time in
    let below : ℕ → List ℕ = stages_from c.args.tree.now (c.args.levels - 1) in
    let parts = c.outside_parts-part-items.result.now in
    ap (λ (text : List ℕ). text ++ texts_after help below parts (c.loop-part.part-index + 1)) c.in_ok-put_stages.ensures
    ∙ texts_step help below parts c.loop-part.part-index 0 (string_bytes c.loop-part.text) c.loop-part-test.true ∙ c.loop-part.invariant
