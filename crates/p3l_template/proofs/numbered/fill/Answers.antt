use Rattle.std.proofs.Common.{sym, ap, ◌∙◌, arith, is_some}
use Rattle.p3l_firing.specs.Token.{untagged}
use Rattle.p3l_template.proofs.Slots.{out_of_slots, slot_taken, slot_filled}
use Rattle.p3l_template.proofs.numbered.fill.Goals as goal

pub returns-then-number-from-clause-no : goal.returns-then-number-from-clause-no
returns-then-number-from-clause-no c = λ no xs rest are e.
    out_of_slots xs rest c.args.token.now c.args.from _ c.newest_tag-number.result e c.newest_tag-number.ensures
    (λ l. omega (arith, l, c.if-number-from.true))

pub returns-then-place-slots-clause-no : goal.returns-then-place-slots-clause-no
returns-then-place-slots-clause-no c = λ no xs rest are e.
    out_of_slots xs rest c.args.token.now c.args.from _ c.newest_tag-number.result e c.newest_tag-number.ensures
    (λ l. omega (arith, l, c.if-place-slots.true))

pub returns-then-is_some-clause-no : goal.returns-then-is_some-clause-no
returns-then-is_some-clause-no c = λ no xs rest are e.
    slot_taken xs rest c.args.token.now c.args.from c.newest_tag-number.result c.args.slots.now c.index-slots-place.result are e
    c.newest_tag-number.ensures (omega (arith, c.if-number-from.false)) (omega (arith, c.if-place-slots.false))
    c.index-slots-place.is (ap is_some c.index-slots-place.is ∙ sym c.is_some.ensures ∙ c.if-is_some.true)

pub returns-clause-yes : goal.returns-clause-yes
returns-clause-yes c = λ yes xs are.
    slot_filled xs c.args.token.now c.untagged.result c.args.from c.newest_tag-number.result c.args.slots.now c.index-slots-place.result
    c.newest_tag-number.ensures (omega (arith, c.if-number-from.false)) (omega (arith, c.if-place-slots.false))
    c.index-slots-place.is (ap is_some c.index-slots-place.is ∙ sym c.is_some.ensures ∙ c.if-is_some.false) (c.untagged.ensures ∙ ap untagged c.bare.ensures) are
