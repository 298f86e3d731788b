use Rattle.std.proofs.Common.{◌+◌, [], None, take, drop, length, subst, sym, ap, ◌∙◌}
use Rattle.std.proofs.lemmas.List.{length-replicate}
use Rattle.std.proofs.lemmas.Bool.{cond-false}
use Rattle.p3l_template.specs.Bag.{numbered}
use Rattle.p3l_template.specs.Numbered.{AreSlotted, ordered}
use Rattle.p3l_template.proofs.Slots.{free_are, split_at}
use Rattle.p3l_template.proofs.numbered.in_order.Goals as goal

pub loop-token-init : goal.loop-token-init
loop-token-init c = record {
  many = ap length c.in_ok-slots.ensures ∙ length-replicate (length c.args.tokens.now) None;
  are = subst (λ z. AreSlotted c.args.from z []) (sym c.in_ok-slots.ensures) (free_are c.args.from (length c.args.tokens.now));
}

pub returns-then-not-fill : goal.returns-then-not-fill
unfolding ordered
returns-then-not-fill c =
    let i = c.loop-token.token-index in
    let x = c.token-item.result in
    let whole = split_at c.args.tokens.now i x c.loop-token-test.true c.token-item.is in
    let no = c.fill.ensures.no c.if-not-fill.true (take i c.args.tokens.now) (drop (i + 1) c.args.tokens.now)
    (subst (λ z. AreSlotted c.args.from z (take i c.args.tokens.now)) (sym c.as_mut_slice.ensures.value) c.loop-token.invariant.are)
    (ap length (sym whole) ∙ sym c.loop-token.invariant.many ∙ ap length (sym c.as_mut_slice.ensures.value)) in
    sym (cond-false _ _ _ (ap (λ z. numbered z c.args.from) whole ∙ no))
