use Rattle.p3l_ast.specs.Tree.{phrase, phrases}
use Rattle.p3l_reader.specs.Reading.{FailsSetting}
use Rattle.p3l_reader.proofs.Tokens.{on_residual}
use Rattle.p3l_reader.proofs.Bodies.{sets_all, sets_fails_target, sets_fails_mark, sets_fails_value}
use Rattle.p3l_reader.proofs.stmt.setting.Goals as goal

pub returns-clause-ok : goal.returns-clause-ok
returns-clause-ok c =
    sets_all c.args.mark c.args.tokens.now c.in_ok-target.rest.now c.in_ok-rest.rest.now c.in_ok-value.rest.now c.in_ok-target.target.at (phrases c.in_ok-target.target.index.items) (phrase c.in_ok-value.value)
    c.in_ok-target.ensures.ok c.in_ok-rest.ensures.ok c.in_ok-value.ensures.ok

pub returns-in_err-target-clause-err : goal.returns-in_err-target-clause-err
returns-in_err-target-clause-err c =
    on_residual _ c.in_err-target.field-0.0 (FailsSetting c.args.mark c.args.tokens.now) c.from_residual.ensures.1
    (sets_fails_target c.args.mark c.args.tokens.now _ c.in_err-target.ensures.err)

pub returns-in_err-rest-clause-err : goal.returns-in_err-rest-clause-err
returns-in_err-rest-clause-err c =
    on_residual _ c.in_err-rest.field-0.0 (FailsSetting c.args.mark c.args.tokens.now) c.from_residual-in_err-rest.ensures.1
    (sets_fails_mark c.args.mark c.args.tokens.now c.in_ok-target.rest.now c.in_ok-target.target.at (phrases c.in_ok-target.target.index.items) _ c.in_ok-target.ensures.ok c.in_err-rest.ensures.err)

pub returns-in_err-value-clause-err : goal.returns-in_err-value-clause-err
returns-in_err-value-clause-err c =
    on_residual _ c.in_err-value.field-0.0 (FailsSetting c.args.mark c.args.tokens.now) c.from_residual-in_err-value.ensures.1
    (sets_fails_value c.args.mark c.args.tokens.now c.in_ok-target.rest.now c.in_ok-rest.rest.now c.in_ok-target.target.at (phrases c.in_ok-target.target.index.items) _ c.in_ok-target.ensures.ok c.in_ok-rest.ensures.ok c.in_err-value.ensures.err)
