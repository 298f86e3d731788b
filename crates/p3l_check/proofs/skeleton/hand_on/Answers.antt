use Rattle.std.proofs.Common.{rules, ◌≡◌, Err}
use Rattle.p3l_body.proofs.Definite.{handed_on as handed_fault}
use Rattle.p3l_calls.proofs.Definite.{plain_call_definite}
use Rattle.p3l_check.specs.Environment.{before_of}
use Rattle.p3l_check.specs.Skeleton.{handed_on}
use Rattle.p3l_check.proofs.skeleton.hand_on.Goals as goal

pub returns-in_err-check_plain_call-clause-vars : goal.returns-in_err-check_plain_call-clause-vars
returns-in_err-check_plain_call-clause-vars c =
    let refusal = c.in_err-check_plain_call.field-0.0 in
    let means : handed_on (before_of c.args.env) c.args.scope.now c.args.taken.now c.args.outs.now c.args.is_last c.args.callee.now c.args.call.now ≡ Err refusal = search rules in
    handed_fault _ refusal _ _ c.from_residual.ensures.1 (plain_call_definite c.args.taken.now c.args.outs.now c.args.callee.now c.args.call.now) c.in_err-check_plain_call.ensures means
