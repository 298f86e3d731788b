use Rattle.std.proofs.Common.{◌∙◌, sym}
use Rattle.std.proofs.lemmas.Result.{err_from_is_err_and}
use Rattle.p3l_run.proofs.ReplaySteps.{comes_early, comes_unwritten, passed, went_on}
use Rattle.p3l_run.proofs.execution.Execution.make.Goals as goal

pub returns-in_err-pass-clause-makes : goal.returns-in_err-pass-clause-makes
returns-in_err-pass-clause-makes g c =
    let p = err_from_is_err_and c.from_residual.result c.from_residual.ensures.1 in
    rw (p.1, p.2) (λ r used unused input leaf_is d ready. comes_early r used _ _ _ d)

pub returns-then-not-can_step-clause-makes : goal.returns-then-not-can_step-clause-makes
returns-then-not-can_step-clause-makes g c = λ r used unused input leaf_is d ready. passed r used unused _ _ _ d ready (sym c.can_step.ensures.ready ∙ c.if-not-can_step.true) _ c.in_ok-pass.ensures

pub returns-in_err-outcome-clause-makes : goal.returns-in_err-outcome-clause-makes
returns-in_err-outcome-clause-makes g c =
    let p = err_from_is_err_and c.from_residual-in_err-outcome.result c.from_residual-in_err-outcome.ensures.1 in
    rw (p.1, p.2) (λ r used unused input leaf_is d ready. comes_early r used _ _ _ d)

pub returns-in_err-self-clause-makes : goal.returns-in_err-self-clause-makes
returns-in_err-self-clause-makes g c =
    let p = err_from_is_err_and c.from_residual-in_err-self.result c.from_residual-in_err-self.ensures.1 in
    rw (p.1, p.2)
    (λ r used unused input leaf_is d ready. comes_unwritten r used unused _ _ _ d ready (sym c.can_step.ensures.ready ∙ c.if-not-can_step.false) _ leaf_is _ _ c.in_ok-outcome.ensures.fired _ _ c.in_err-self.ensures.begun c.in_err-self.ensures.cause)

pub returns-clause-makes : goal.returns-clause-makes
returns-clause-makes g c =
    λ r used unused input leaf_is d ready.
    went_on r used unused _ _ _ d ready (sym c.can_step.ensures.ready ∙ c.if-not-can_step.false) _ leaf_is _ _ c.in_ok-outcome.ensures.fired _ _ c.in_ok-self.ensures.trap c.in_ok-self.ensures.put c.in_ok-self.ensures.cause

pub returns-in_err-self-clause-wants : goal.returns-in_err-self-clause-wants
returns-in_err-self-clause-wants g c =
    let p = err_from_is_err_and c.from_residual-in_err-self.result c.from_residual-in_err-self.ensures.1 in
    rw (p.1, p.2) (c.in_err-self.ensures.wants g.U.Units.may_want)
