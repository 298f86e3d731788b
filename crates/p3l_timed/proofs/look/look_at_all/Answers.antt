use Rattle.std.proofs.Common.{◌+◌, None, sym, ◌∙◌, arith, inl, inr}
use Rattle.std.proofs.lemmas.Bool.{cases_lt}
use Rattle.p3l_net.specs.Machine.{can_step}
use Rattle.p3l_timed.specs.Price.{price_at}
use Rattle.p3l_timed.proofs.Keeping.{can_past, idle_is_none}
use Rattle.p3l_timed.proofs.look.look_at_all.Goals as goal

pub returns-clause-due : goal.returns-clause-due
returns-clause-due c = λ r.
    let m = c.args.machine.now in
    let stop = c.loop-r-test.false in
    let size = c.size-r-end.ensures in
    elim (cases_lt r c.loop-r.r) [
      | inl before ↦ c.loop-r.invariant.due r before
      | inr after ↦
          c.loop-r.invariant.rest r after
          ∙ sym (idle_is_none (can_step m r) (0 + price_at c.args.prices.now r) None (can_past m r (omega (arith, after, stop, size))))
    ]
