use Rattle.std.proofs.Common.{rules, ◌≡◌, Err}
use Rattle.p3l_ast.specs.Tree.{module_tree}
use Rattle.p3l_body.proofs.Definite.{handed_on}
use Rattle.p3l_check.specs.Environment.{before_of}
use Rattle.p3l_check.specs.Skeleton.{loop_of}
use Rattle.p3l_check.proofs.Definite.{loop_body_definite}
use Rattle.p3l_check.proofs.skeleton.loop_of.Goals as goal

pub returns-in_err-body-2 : goal.returns-in_err-body-2
returns-in_err-body-2 c =
    let refusal = c.in_err-body-2.field-0.0 in
    let means : loop_of (before_of c.args.env) (module_tree c.args.«module».now) c.args.ports.now ≡ Err refusal = search rules in
    handed_on _ refusal _ _ c.from_residual-in_err-body-2.ensures.1 (loop_body_definite (before_of c.args.env) c.args.ports.now c.in_ok-body.body.now) c.in_err-body-2.ensures means
