use Rattle.std.proofs.Common.{◌≡◌, Err, arith}
use Rattle.p3l_calls.specs.Condition.{condition}
use Rattle.p3l_body.proofs.Definite.{handed_on}
use Rattle.p3l_calls.proofs.Definite.{plain_ins_definite}
use Rattle.p3l_calls.proofs.condition.check_condition.Goals as goal

pub returns-in_err-check_plain_ins : goal.returns-in_err-check_plain_ins
returns-in_err-check_plain_ins c =
    let rule = c.in_err-check_plain_ins.ensures in
    let means : condition c.args.consts.now c.args.scope.now c.args.loop_outs.now c.args.callee.now c.args.call.now ≡ Err c.in_err-check_plain_ins.field-0.0 = grind (arith, rule) in
    handed_on _ c.in_err-check_plain_ins.field-0.0 _ _ c.from_residual.ensures.1 (plain_ins_definite c.args.loop_outs.now c.args.callee.now c.args.call.now) rule means
