use Rattle.std.proofs.Common.{◌≡◌, ℕ, ◌-◌, ◌<◌, List, arith, refl, ap, ◌∙◌}
use Rattle.std.proofs.lemmas.List.{take_all}
use Rattle.p3l_skel.specs.declared.tree.Node.{Node}
use Rattle.p3l_skel.specs.Tree.{node_at}
use Rattle.p3l_skel.specs.Counts.{own_counted, outside_parts, counted_from}
use Rattle.p3l_skel.proofs.Below.{counted_from-zero, counted_from-step, counted_from-past}
use Rattle.p3l_skel.proofs.Taken.{TakesLawful-split, TakesLawful-more, TakesLawful-stops}
use Rattle.p3l_skel.proofs.counts.+after.Goals as goal

pub returns-in_default-clause-ok : goal.returns-in_default-clause-ok
returns-in_default-clause-ok t c =
    rw (counted_from-past c.args.tree.now c.args.levels c.args.number c.in_default.ensures.past) refl

pub returns-then-levels-eq0-clause-ok : goal.returns-then-levels-eq0-clause-ok
returns-then-levels-eq0-clause-ok t c = rw (c.if-levels-eq0.true, counted_from-zero) refl

pub returns-in_err-next-clause-none : goal.returns-in_err-next-clause-none
returns-in_err-next-clause-none t c =
    rw c.from_residual.ensures (λ rest all. let some : 0 < c.args.levels = omega arith in
    let separated = TakesLawful-split c.args.tree.now _ _ _ rest (rw (counted_from-step c.args.tree.now c.args.levels c.args.number some) at all) in
    c.in_err-next.ensures.none separated.0 separated.1)

pub returns-in_err-next-2-clause-none : goal.returns-in_err-next-2-clause-none
returns-in_err-next-2-clause-none t c =
    rw c.from_residual-in_err-next-2.ensures (λ rest all. let some : 0 < c.args.levels = omega arith in
    let own : List ℕ = own_counted (node_at c.args.tree.now c.args.number).form c.args.number in
    let below : ℕ → List ℕ = counted_from c.args.tree.now (c.args.levels - 1) in
    let parts : c.outside_parts-part-items.result.now ≡ outside_parts (node_at c.args.tree.now c.args.number).form (node_at c.args.tree.now c.args.number).parts =
    c.outside_parts-part-items.ensures ∙ ap (λ (n : Node). outside_parts n.form n.parts) c.in-Some.ensures.found in
    TakesLawful-stops c.args.tree.now own below c.outside_parts-part-items.result.now c.loop-part.part-index 0 _ _ rest c.loop-part-test.true c.loop-part.invariant c.in_err-next-2.ensures.none
    (rw parts (rw (counted_from-step c.args.tree.now c.args.levels c.args.number some) at all)))

pub loop-part-preserved : goal.loop-part-preserved
loop-part-preserved t c =
    TakesLawful-more c.args.tree.now _ (counted_from c.args.tree.now (c.args.levels - 1)) _ _ 0 _ _ _ c.loop-part-test.true c.loop-part.invariant c.in_ok-next-2.ensures.ok

pub returns-clause-ok : goal.returns-clause-ok
returns-clause-ok t c =
    let some : 0 < c.args.levels = omega arith in
    let parts : c.outside_parts-part-items.result.now ≡ outside_parts (node_at c.args.tree.now c.args.number).form (node_at c.args.tree.now c.args.number).parts =
    c.outside_parts-part-items.ensures ∙ ap (λ (n : Node). outside_parts n.form n.parts) c.in-Some.ensures.found in
    rw (counted_from-step c.args.tree.now c.args.levels c.args.number some, ← parts)
    (rw (take_all c.loop-part.part-index c.outside_parts-part-items.result.now c.loop-part-test.false) at c.loop-part.invariant)
