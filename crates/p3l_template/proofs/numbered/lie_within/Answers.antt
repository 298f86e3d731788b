use Rattle.std.proofs.Common.{sym, ◌∙◌, arith, inl, inr, subst, ◌<◌, ◌≤◌, ◌⊎◌}
use Rattle.p3l_firing.specs.Token.{newest_tag}
use Rattle.p3l_template.proofs.Within.{within-next, within-end, outside, inside}
use Rattle.p3l_template.proofs.numbered.lie_within.Goals as goal

pub returns-then-number-from : goal.returns-then-number-from
returns-then-number-from c =
    let n = c.newest_tag-number.ensures in
    let out : (newest_tag c.token-item.result < c.args.from) ⊎ (c.args.to ≤ newest_tag c.token-item.result) = elim c.then-number-from.either [
      | inl l ↦ inl (subst (λ m. m < c.args.from) n l)
      | inr r ↦ inr (subst (λ m. c.args.to ≤ m) n r.1)
    ] in
    sym (c.loop-token.invariant ∙ within-next c.args.from c.args.to c.args.tokens.now c.loop-token.token-index c.token-item.result c.loop-token-test.true c.token-item.is ∙ outside c.args.from c.args.to _ _ out)

pub loop-token-preserved : goal.loop-token-preserved
loop-token-preserved c =
    let n = c.newest_tag-number.ensures in
    c.loop-token.invariant ∙ within-next c.args.from c.args.to c.args.tokens.now c.loop-token.token-index c.token-item.result c.loop-token-test.true c.token-item.is
    ∙ inside c.args.from c.args.to _ _ (subst (λ m. c.args.from ≤ m) n c.if-number-from.false) (subst (λ m. m < c.args.to) n c.if-number-to.false)

pub returns : goal.returns
returns c = sym (c.loop-token.invariant ∙ within-end c.args.from c.args.to c.args.tokens.now c.loop-token.token-index (omega (arith, c.loop-token-test.false)))
