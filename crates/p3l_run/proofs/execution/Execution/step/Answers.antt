use Rattle.std.proofs.Common.{◌∙◌, refl, sym}
use Rattle.std.proofs.lemmas.Result.{err_from_is_err_and}
use Rattle.p3l_run.proofs.ExecutionSteps.{ends_early, passed, went_on}
use Rattle.p3l_run.proofs.WriteSteps.{put_nothing}
use Rattle.p3l_run.proofs.execution.Execution.step.Goals as goal

pub returns-in_err-pass-clause-steps : goal.returns-in_err-pass-clause-steps
returns-in_err-pass-clause-steps g c =
    let p = err_from_is_err_and c.from_residual.result c.from_residual.ensures.1 in
    rw (p.1, p.2) (λ job input leaf_is a. ends_early job _ _ a.executes)

pub returns-then-not-can_step-clause-steps : goal.returns-then-not-can_step-clause-steps
returns-then-not-can_step-clause-steps g c = λ job input leaf_is a. passed job _ _ a _ _ c.in-Some.ensures (sym c.can_step.ensures.ready ∙ c.if-not-can_step.true) _ c.in_ok-pass.ensures

pub returns-in_err-fire_sink-clause-steps : goal.returns-in_err-fire_sink-clause-steps
returns-in_err-fire_sink-clause-steps g c =
    let p = err_from_is_err_and c.from_residual-in_err-fire_sink.result c.from_residual-in_err-fire_sink.ensures.1 in
    rw (p.1, p.2) (λ job input leaf_is a. c.in_err-fire_sink.ensures.fires job input _ leaf_is a c.in-Some.ensures (sym c.can_step.ensures.ready ∙ c.if-not-can_step.false))

pub returns-in_ok-fire_sink-clause-steps : goal.returns-in_ok-fire_sink-clause-steps
returns-in_ok-fire_sink-clause-steps g c = λ job input leaf_is a. c.in_ok-fire_sink.ensures.fires job input _ leaf_is a c.in-Some.ensures (sym c.can_step.ensures.ready ∙ c.if-not-can_step.false)

pub returns-in_err-fire_within-clause-steps : goal.returns-in_err-fire_within-clause-steps
returns-in_err-fire_within-clause-steps g c =
    let p = err_from_is_err_and c.from_residual-in_err-fire_within.result c.from_residual-in_err-fire_within.ensures.1 in
    rw (p.1, p.2) (λ job input leaf_is a. ends_early job _ _ a.executes)

pub returns-in_ok-fire_within-clause-steps : goal.returns-in_ok-fire_within-clause-steps
returns-in_ok-fire_within-clause-steps g c =
    λ job input leaf_is a.
    went_on job _ _ a _ _ c.in-Some.ensures (sym c.can_step.ensures.ready ∙ c.if-not-can_step.false) _ leaf_is _ _ c.in_ok-fire_within.ensures c.fire_within.new.self.emitted _ refl refl (put_nothing (g.K.Sink.observed c.args.out.now)) refl
