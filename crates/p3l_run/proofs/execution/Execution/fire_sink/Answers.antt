use Rattle.std.proofs.lemmas.Result.{err_from_is_err_and}
use Rattle.p3l_run.proofs.ExecutionSteps.{ends_early, ends_unwritten, went_on}
use Rattle.p3l_run.proofs.execution.Execution.fire_sink.Goals as goal

pub returns-in_err-outcome-clause-fires : goal.returns-in_err-outcome-clause-fires
returns-in_err-outcome-clause-fires g c =
    let p = err_from_is_err_and c.from_residual.result c.from_residual.ensures.1 in
    rw (p.1, p.2) (λ job input old leaf_is a picks can. ends_early job _ _ a.executes)

pub returns-in_err-self-clause-fires : goal.returns-in_err-self-clause-fires
returns-in_err-self-clause-fires g c =
    let p = err_from_is_err_and c.from_residual-in_err-self.result c.from_residual-in_err-self.ensures.1 in
    rw (p.1, p.2)
    (λ job input old leaf_is a picks can. ends_unwritten job _ _ a _ _ picks can _ leaf_is _ _ c.in_ok-outcome.ensures.fired _ _ c.in_err-self.ensures.begun c.in_err-self.ensures.cause)

pub returns-clause-fires : goal.returns-clause-fires
returns-clause-fires g c =
    λ job input old leaf_is a picks can.
    went_on job _ _ a _ _ picks can _ leaf_is _ _ c.in_ok-outcome.ensures.fired _ _ c.in_ok-self.ensures.trap c.in_ok-self.ensures.sum c.in_ok-self.ensures.put c.in_ok-self.ensures.cause

pub returns-in_err-self-clause-wants : goal.returns-in_err-self-clause-wants
returns-in_err-self-clause-wants g c =
    let p = err_from_is_err_and c.from_residual-in_err-self.result c.from_residual-in_err-self.ensures.1 in
    rw (p.1, p.2) (c.in_err-self.ensures.wants g.U.Units.may_want)
