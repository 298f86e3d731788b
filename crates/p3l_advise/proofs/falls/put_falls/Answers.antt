use Rattle.std.proofs.Common.{◌≡◌, ◌+◌, ◌-◌, ◌<◌, ℕ, ap, arith}
use Rattle.std.specs.Prelude.{string_bytes}
use Rattle.p3l_alloc.specs.Best.{best_at}
use Rattle.p3l_alloc.specs.declared.allocation.Best.{Best}
use Rattle.p3l_advise.proofs.Numbers.{first_line, next_line}
use Rattle.p3l_advise.proofs.falls.put_falls.Goals as goal

pub loop-processors-init : goal.loop-processors-init
loop-processors-init c =
    let best : ℕ → Best = best_at c.args.tree.now c.args.rows.now in
    let back : c.args.least + 1 - 1 ≡ c.args.least = omega arith in
    record {
      words = first_line best c.args.least c.best_for-first.result (string_bytes c.args.text.now) _ c.best_for-first.ensures.given c.in_ok-put_fall.ensures;
      last = rw back (ap (λ (b : Best). b.service) c.best_for-first.ensures.given);
    }

pub loop-processors-preserved : goal.loop-processors-preserved
loop-processors-preserved c =
    let best : ℕ → Best = best_at c.args.tree.now c.args.rows.now in
    let more : c.args.least < c.loop-processors.processors = omega arith in
    let back : c.loop-processors.processors + 1 - 1 ≡ c.loop-processors.processors = omega arith in
    record {
      words = next_line best c.args.least c.loop-processors.processors c.loop-processors.before c.best_for-first.result c.best_for-best.result (string_bytes c.args.text.now) (string_bytes c.loop-processors.text) _ more c.best_for-first.ensures.given c.best_for-best.ensures.given c.loop-processors.invariant.last c.loop-processors.invariant.words c.in_ok-put_change.ensures;
      last = rw back (ap (λ (b : Best). b.service) c.best_for-best.ensures.given);
    }
