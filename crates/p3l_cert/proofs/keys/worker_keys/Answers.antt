use Rattle.std.proofs.Common.{◌≡◌, ◌-◌, ◌/◌, ◌∷◌, [], ◌++◌, sym, ap₂, ◌∙◌, arith}
use Rattle.p3l_model.specs.Least.{part_bound}
use Rattle.p3l_cert.specs.Rule.{key}
use Rattle.p3l_cert.proofs.Needs.{worker_keys_none, worker_keys_more}
use Rattle.p3l_cert.proofs.keys.worker_keys.Goals as goal

pub loop-workers-init : goal.loop-workers-init
loop-workers-init c =
    c.new-keys.ensures ∙ sym (worker_keys_none c.args.part (part_bound c.args.sharing c.args.bound) c.args.cap c.max-first.result (c.max-first.result - c.max-first.result) (omega arith))

pub loop-workers-preserved : goal.loop-workers-preserved
loop-workers-preserved c =
    let room : c.saturating_sub-room.result ≡ c.args.cap - 2 = omega arith in
    c.in_ok-push.ensures.ok
    ∙ ap₂ (λ xs k. xs ++ k ∷ []) c.loop-workers.invariant (ap₂ (λ b r. key c.args.part b (r / c.loop-workers.workers)) c.part_bound.ensures room)
    ∙ sym (worker_keys_more c.args.part (part_bound c.args.sharing c.args.bound) c.args.cap c.max-first.result c.loop-workers.workers (omega arith))
