use Rattle.p3l_ast.specs.Tree.{phrase, phrases}
use Rattle.p3l_ast.proofs.Trees.{one_assign}
use Rattle.p3l_reader.specs.Reading.{MissesStmt}
use Rattle.p3l_reader.proofs.Tokens.{on_residual}
use Rattle.p3l_reader.proofs.Bodies.{assignment_adds, assignment_misses}
use Rattle.p3l_reader.proofs.stmt.assignment.Goals as goal

pub returns-clause-ok : goal.returns-clause-ok
returns-clause-ok c =
    rw (one_assign c.in_ok-target.target c.in_ok-target.value)
    (assignment_adds c.args.tokens.now c.in_ok-target.rest.now c.in_ok-target.target.at (phrases c.in_ok-target.target.index.items) (phrase c.in_ok-target.value) c.requires c.in_ok-target.ensures.ok)

pub returns-in_err-target-clause-err : goal.returns-in_err-target-clause-err
returns-in_err-target-clause-err c =
    on_residual _ c.in_err-target.field-0.0 (MissesStmt c.args.tokens.now) c.from_residual.ensures.1
    (assignment_misses c.args.tokens.now _ c.requires c.in_err-target.ensures.err)
