use Rattle.std.proofs.Common.{rules, ◌≡◌, Err}
use Rattle.p3l_ast.specs.Tree.{module_tree}
use Rattle.p3l_body.proofs.Definite.{handed_on}
use Rattle.p3l_calls.proofs.Definite.{plain_call_definite}
use Rattle.p3l_check.specs.Environment.{before_of}
use Rattle.p3l_check.specs.Skeleton.{farm_of}
use Rattle.p3l_check.proofs.skeleton.farm_of.Goals as goal

pub returns-in_err-check_plain_call : goal.returns-in_err-check_plain_call
returns-in_err-check_plain_call c =
    let refusal = c.in_err-check_plain_call.field-0.0 in
    let means : farm_of (before_of c.args.env) (module_tree c.args.«module».now) c.args.ports.now ≡ Err refusal = search rules in
    handed_on _ refusal _ _ c.from_residual-in_err-check_plain_call.ensures.1
    (plain_call_definite c.as_slice.result.now c.as_slice-2.result.now c.ports.result.now c.in_ok-call.call.now) c.in_err-check_plain_call.ensures means
