use Rattle.std.proofs.Common.{rules, ◌≡◌, Err}
use Rattle.p3l_ast.specs.Tree.{module_tree}
use Rattle.p3l_body.proofs.Definite.{handed_on}
use Rattle.p3l_check.specs.Environment.{before_of}
use Rattle.p3l_check.specs.Skeleton.{reduce_of}
use Rattle.p3l_check.proofs.Definite.{elements_definite}
use Rattle.p3l_check.proofs.skeleton.reduce_of.Goals as goal

pub returns-in_err-elements : goal.returns-in_err-elements
returns-in_err-elements c =
    let refusal = c.in_err-elements.field-0.0 in
    let means : reduce_of (before_of c.args.env) (module_tree c.args.«module».now) c.args.ports.now ≡ Err refusal = search rules in
    handed_on _ refusal _ _ c.from_residual-in_err-elements.ensures.1
    (elements_definite c.args.«module».now.at.pos c.args.ports.now c.ports.result.now c.in_ok-call.call.now) c.in_err-elements.ensures means
