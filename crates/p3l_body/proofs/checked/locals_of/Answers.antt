use Rattle.std.proofs.Common.{◌≡◌, Err, arith}
use Rattle.p3l_ast.specs.Tree.{statements}
use Rattle.p3l_body.specs.Seq.{checked_locals}
use Rattle.p3l_body.proofs.Definite.{handed_on, mentions_definite}
use Rattle.p3l_body.proofs.checked.locals_of.Goals as goal

pub returns-in_err-check_statements : goal.returns-in_err-check_statements
returns-in_err-check_statements c =
    let locals = c.in_ok-locals.locals in
    let vars = c.in_ok-locals.ensures.vars in
    let names = c.in_ok-locals.ensures.names in
    let rule = c.in_err-check_statements.ensures in
    let means : checked_locals c.args.consts.now c.args.scope.now c.args.block.now.locals (statements c.args.block.now.stmts) ≡ Err c.in_err-check_statements.field-0.0 =
    grind (arith, vars, names, rule) in
    handed_on _ c.in_err-check_statements.field-0.0 _ _ c.from_residual-in_err-check_statements.ensures.1 (mentions_definite _ _ _) rule means
