use Rattle.std.proofs.Common.{◌≡◌, ◌-◌, ◌/◌, ◌≤◌, ℕ, ◌∙◌, min, ap, arith}
use Rattle.p3l_alloc.specs.Soonest.{shared_time}
use Rattle.p3l_alloc.proofs.Soonest.{last_grows, workers_start, workers_step, workers_end}
use Rattle.p3l_alloc.proofs.entry.workers_entry.Goals as goal

pub loop-workers-init : goal.loop-workers-init
loop-workers-init c = record {
  some = omega (arith, c.max-workers.ensures);
  low = omega (arith, c.max-workers.ensures);
  best = λ a part. workers_start c.args.span c.args.sharing c.args.ends c.args.processes a c.args.part.now part c.max-workers.result c.max-workers.ensures;
}

pub loop-workers-preserved : goal.loop-workers-preserved
loop-workers-preserved c =
    let span = c.args.span in
    let n = c.loop-workers.workers in
    let room : c.saturating_sub-room.result ≡ c.args.processes - 2 = c.saturating_sub-room.ensures in
    let each : ℕ = c.saturating_sub-room.result / n in
    let is : each ≡ (c.args.processes - 2) / n = ap (λ x. x / n) room in
    let ends : c.min-last.result ≡ min ((c.args.processes - 2) / each) span.high = c.min-last.ensures ∙ ap (λ x. min (x / each) span.high) room in
    let within : n ≤ min span.high (c.args.processes - 2) = omega (arith, c.min-most.ensures, room, c.loop-workers-test.true) in
    record {
      some = omega arith;
      low = omega (arith, ends, last_grows c.args.processes n each c.loop-workers.invariant.some (omega arith) is, c.loop-workers.invariant.low);
      best = λ a part. workers_step span c.args.sharing c.args.ends c.args.processes a c.args.part.now part n each c.min-last.result c.loop-workers.best c.min-best.result c.loop-workers.invariant.some c.loop-workers.invariant.low (omega arith) (omega arith) is ends (c.min-best.ensures ∙ ap (min c.loop-workers.best) (c.shared.ensures ∙ ap (shared_time c.args.sharing c.args.ends c.min-last.result) c.soonest.ensures)) (c.loop-workers.invariant.best a part);
    }

pub returns : goal.returns
returns c = λ a part.
    workers_end c.args.span c.args.sharing c.args.ends c.args.processes a c.args.part.now part c.loop-workers.workers c.loop-workers.best
    (omega (arith, c.min-most.ensures, c.saturating_sub-room.ensures, c.loop-workers-test.false)) (c.loop-workers.invariant.best a part)
