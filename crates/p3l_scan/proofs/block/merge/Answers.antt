use Rattle.std.proofs.Common.{◌≡◌, ◌-◌, ◌++◌, take, drop, length, arith, rules, ap, sym, ◌∙◌, subst, subst₂}
use Rattle.p3l_base.specs.declared.outcome.Outcome.TheVariants.{Value}
use Rattle.p3l_skel.specs.Item.{elements, item}
use Rattle.p3l_scan.specs.Scan.{in_words, merged}
use Rattle.p3l_scan.proofs.Merging.{LeadsTo, begins, ends, goes-on, last-is, last-length, stops}
use Rattle.p3l_scan.proofs.block.merge.Goals as goal

pub loop-rest-init : goal.loop-rest-init
loop-rest-init g c =
    let operator = item (g.U.Units.tree c.args.units.now) (g.U.Units.leaf c.args.units.now) c.args.op in
    let last = take (length c.args.front.now - (length c.args.front.now - c.args.elem))
    (drop (length c.args.front.now - c.args.elem) c.args.front.now) in
    let whole = in_words (merged operator (elements c.args.elem c.args.front.now) (elements c.args.elem c.args.back.now)) in
    let some = c.requires.operator.some in
    let n = c.requires.front in
    let folds : c.in_ok-folds.folds.items ≡ c.args.front.now = search rules in
    subst (λ fs. LeadsTo operator c.args.elem fs last c.args.back.now whole) (sym folds)
    (begins operator c.args.elem some n.0 c.args.front.now c.args.back.now last n.1 n.2
    (last-is n.0 c.args.elem c.args.front.now n.1 n.2))

pub combine-requires-clause-left : goal.combine-requires-clause-left
combine-requires-clause-left g c =
    let n = c.requires.front in last-length n.0 c.args.elem c.args.front.now n.1 n.2

pub returns-in-Trapped : goal.returns-in-Trapped
returns-in-Trapped g c =
    let operator = item (g.U.Units.tree c.args.units.now) (g.U.Units.leaf c.args.units.now) c.args.op in
    let last = take (length c.args.front.now - (length c.args.front.now - c.args.elem))
    (drop (length c.args.front.now - c.args.elem) c.args.front.now) in
    let enough = c.loop-rest-test.true in
    let element = c.split_at.ensures.front in
    stops operator c.args.elem c.requires.operator.some c.loop-rest.folds.items last c.loop-rest.rest.now c.in-Trapped.trap _
    (omega (arith, enough))
    (ap (λ x. operator (last ++ x)) (sym element) ∙ sym c.in_ok-fold.ensures.combined ∙ c.in-Trapped.is)
    c.loop-rest.invariant

pub loop-rest-preserved : goal.loop-rest-preserved
loop-rest-preserved g c =
    let operator = item (g.U.Units.tree c.args.units.now) (g.U.Units.leaf c.args.units.now) c.args.op in
    let last = take (length c.args.front.now - (length c.args.front.now - c.args.elem))
    (drop (length c.args.front.now - c.args.elem) c.args.front.now) in
    let whole = in_words (merged operator (elements c.args.elem c.args.front.now) (elements c.args.elem c.args.back.now)) in
    let enough = c.loop-rest-test.true in
    let element = c.split_at.ensures.front in
    let folds : c.extend_from_slice.new.self.items ≡ c.loop-rest.folds.items ++ c.in-Value.fold = search rules in
    subst₂ (λ fs rest. LeadsTo operator c.args.elem fs last rest whole) (sym folds) (sym c.split_at.ensures.back)
    (goes-on operator c.args.elem c.requires.operator.some c.loop-rest.folds.items last c.loop-rest.rest.now c.in-Value.fold whole
    (omega (arith, enough))
    (ap (λ x. operator (last ++ x)) (sym element) ∙ sym c.in_ok-fold.ensures.combined ∙ c.in-Value.is)
    c.loop-rest.invariant)

pub returns : goal.returns
returns g c =
    let operator = item (g.U.Units.tree c.args.units.now) (g.U.Units.leaf c.args.units.now) c.args.op in
    let last = take (length c.args.front.now - (length c.args.front.now - c.args.elem))
    (drop (length c.args.front.now - c.args.elem) c.args.front.now) in
    let few = c.loop-rest-test.false in
    let words : c.from_vec.result ≡ c.loop-rest.folds.items = search rules in
    ap Value words
    ∙ ends operator c.args.elem c.requires.operator.some c.loop-rest.folds.items last c.loop-rest.rest.now _ (omega (arith, few))
    c.loop-rest.invariant
