use Rattle.std.proofs.Common.{◌≡◌, Err, arith}
use Rattle.p3l_calls.specs.Stage.{stage}
use Rattle.p3l_body.proofs.Definite.{handed_on}
use Rattle.p3l_calls.proofs.Definite.{plain_ins_definite}
use Rattle.p3l_calls.proofs.stage.check_stage.Goals as goal

pub returns-in_err-check_plain_ins-clause-offered : goal.returns-in_err-check_plain_ins-clause-offered
returns-in_err-check_plain_ins-clause-offered c =
    let rule = c.in_err-check_plain_ins.ensures in
    let means : stage c.args.consts.now c.args.scope.now c.args.taken.now c.args.callee.now c.args.call.now ≡ Err c.in_err-check_plain_ins.field-0.0 = grind (arith, rule) in
    handed_on _ c.in_err-check_plain_ins.field-0.0 _ _ c.from_residual.ensures.1 (plain_ins_definite c.args.taken.now c.args.callee.now c.args.call.now) rule means
