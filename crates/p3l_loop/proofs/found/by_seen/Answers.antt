use Rattle.std.proofs.Common.{◌≡◌, subst, sym, ap, ◌∙◌}
use Rattle.p3l_base.specs.Memory.{IfGiven}
use Rattle.p3l_loop.specs.LoopKind.{Seen}
use Rattle.p3l_loop.proofs.LoopSteps.{none_found, found_in_order}
use Rattle.p3l_loop.proofs.found.by_seen.Goals as goal

pub returns-then-not-is_counted : goal.returns-then-not-is_counted
returns-then-not-is_counted c =
    none_found c.args.turns c.args.tokens c.args.seen.now (sym c.is_counted.ensures ∙ c.if-not-is_counted.true)

pub returns : goal.returns
returns c =
    subst (λ z. IfGiven c.in_order.result (λ pending. pending ≡ z))
    (found_in_order c.args.turns c.args.tokens c.args.seen.now c.as_slice.result.now c.seen.inside.least
    (c.as_slice.ensures ∙ c.in_ok-bag.ensures) (ap (λ (v : Seen). v.least) c.seen.view_is)
    (sym c.is_counted.ensures ∙ c.if-not-is_counted.false))
    c.in_order.ensures
