use Rattle.std.proofs.Common.{◌≡◌, ◌+◌, sym, arith}
use Rattle.std.proofs.lemmas.Result.{err_from_is_err_and}
use Rattle.p3l_model.specs.Least.{capped}
use Rattle.p3l_cert.specs.Rule.{needed}
use Rattle.p3l_cert.proofs.Steps.{stages_more, stages_stop, stages_done}
use Rattle.p3l_cert.proofs.rule.stages_rule.Goals as goal

pub returns-in_err-least : goal.returns-in_err-least
returns-in_err-least c =
    let p = err_from_is_err_and c.from_residual.result c.from_residual.ensures.1 in
    rw (p.1, p.2) (stages_stop (needed c.args.rows.now) c.args.bound c.args.cap c.args.parts.now c.loop-part.part-index c.loop-part.before c.in_err-least.field-0.0 _ (omega arith) (sym c.in_err-least.ensures.least) c.loop-part.invariant.rest)

pub loop-part-preserved : goal.loop-part-preserved
loop-part-preserved c =
    let small : c.min-before.result ≡ capped c.args.cap (c.loop-part.before + c.in_ok-least.least) = omega arith in
    record {
      rest = rw small (stages_more (needed c.args.rows.now) c.args.bound c.args.cap c.args.parts.now c.loop-part.part-index c.loop-part.before c.in_ok-least.least _ (omega arith) (sym c.in_ok-least.ensures.least) c.loop-part.invariant.rest);
      small = omega arith;
    }

pub returns : goal.returns
returns c = stages_done (needed c.args.rows.now) c.args.bound c.args.cap c.args.parts.now c.loop-part.part-index c.loop-part.before _ (omega arith) c.loop-part.invariant.rest
