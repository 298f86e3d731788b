use Rattle.std.proofs.Common.{◌≡◌, ◌-◌, sym, ap₂, ◌∙◌, arith}
use Rattle.std.proofs.lemmas.Result.{err_from_is_err_and}
use Rattle.p3l_model.specs.Least.{part_bound}
use Rattle.p3l_cert.specs.Rule.{needed, workers_rule, low_of, run_of}
use Rattle.p3l_cert.proofs.Steps.{workers_none, workers_more, workers_stop}
use Rattle.p3l_cert.proofs.rule.workers_rule.Goals as goal

pub loop-workers-init : goal.loop-workers-init
loop-workers-init c = workers_none (needed c.args.rows.now) c.args.part (part_bound c.args.sharing c.args.bound) c.args.cap c.max-first.result (c.max-first.result - c.max-first.result) (omega arith)

pub returns-in_err-best : goal.returns-in_err-best
returns-in_err-best c =
    let p = err_from_is_err_and c.from_residual.result c.from_residual.ensures.1 in
    let low : c.max-first.result ≡ low_of c.args.span = omega arith in
    let run : c.max-end.result - c.max-first.result ≡ run_of c.args.span c.args.cap = omega arith in
    let stop = workers_stop (needed c.args.rows.now) c.args.part (part_bound c.args.sharing c.args.bound) c.args.cap c.max-first.result c.loop-workers.workers c.max-end.result c.loop-workers.best c.in_err-best.field-0.0 (omega arith) (omega arith) c.loop-workers.invariant (sym c.in_err-best.ensures) in
    rw (p.1, p.2) (sym stop ∙ ap₂ (λ x y. workers_rule (needed c.args.rows.now) c.args.part (part_bound c.args.sharing c.args.bound) c.args.cap x y) low run)

pub loop-workers-preserved : goal.loop-workers-preserved
loop-workers-preserved c =
    workers_more (needed c.args.rows.now) c.args.part (part_bound c.args.sharing c.args.bound) c.args.cap c.max-first.result c.loop-workers.workers c.loop-workers.best _ (omega arith) c.loop-workers.invariant (sym c.in_ok-best.ensures)
