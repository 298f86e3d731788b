use Rattle.std.proofs.Common.{refl}
use Rattle.std.proofs.lemmas.Result.{err_from_is_err_and}
use Rattle.p3l_run.proofs.TimedSteps.{can, count_after, early_in_time, ends_unwritten_in_time, fired_few, others_after, size_after, there, typed_after, went_in_time}
use Rattle.p3l_run.proofs.execution.Execution.step_in_time.Goals as goal

pub returns-in_default-clause-steps : goal.returns-in_default-clause-steps
returns-in_default-clause-steps g c = λ job prices input leaf_is a. (a, c.in_default.ensures.none refl)

pub fire-requires-clause-there : goal.fire-requires-clause-there
fire-requires-clause-there g c = let way = c.requires.job in there way.job way.prices _ _ _ way.awaits _ c.in-Some.ensures.next c.in-Some.ensures.there

pub fire-requires-clause-can : goal.fire-requires-clause-can
fire-requires-clause-can g c = let way = c.requires.job in can way.job way.prices _ _ _ way.awaits _ c.in-Some.ensures.next c.in-Some.ensures.there

pub fire-requires-clause-count : goal.fire-requires-clause-count
fire-requires-clause-count g c = let way = c.requires.job in fired_few way.job way.prices _ _ _ way.awaits _ c.in-Some.ensures.next c.in-Some.ensures.there

pub returns-in_err-outcome-clause-steps : goal.returns-in_err-outcome-clause-steps
returns-in_err-outcome-clause-steps g c =
    let p = err_from_is_err_and c.from_residual.result c.from_residual.ensures.1 in
    rw (p.1, p.2) (λ job prices input leaf_is a. early_in_time job prices _ _ _ a.is)

pub fired-requires-clause-typed : goal.fired-requires-clause-typed
fired-requires-clause-typed g c =
    let way = c.requires.job in typed_after way.job way.prices _ _ _ way.awaits _ c.in-Some.ensures.next c.in-Some.ensures.there _ way.leaf_is _ _ c.in_ok-outcome.ensures.fired

pub fired-requires-clause-size : goal.fired-requires-clause-size
fired-requires-clause-size g c =
    let way = c.requires.job in size_after way.job way.prices _ _ _ way.awaits _ c.in-Some.ensures.next c.in-Some.ensures.there _ way.leaf_is _ _ c.in_ok-outcome.ensures.fired

pub fired-requires-clause-others : goal.fired-requires-clause-others
fired-requires-clause-others g c =
    let way = c.requires.job in others_after way.job way.prices _ _ _ way.awaits _ c.in-Some.ensures.next c.in-Some.ensures.there _ way.leaf_is _ _ c.in_ok-outcome.ensures.fired c.in_ok-outcome.ensures.others

pub fired-requires-clause-count : goal.fired-requires-clause-count
fired-requires-clause-count g c =
    let way = c.requires.job in count_after way.job way.prices _ _ _ way.awaits _ c.in-Some.ensures.next c.in-Some.ensures.there _ way.leaf_is _ _ c.in_ok-outcome.ensures.fired

pub returns-in_err-self-clause-steps : goal.returns-in_err-self-clause-steps
returns-in_err-self-clause-steps g c =
    let p = err_from_is_err_and c.from_residual-in_err-self.result c.from_residual-in_err-self.ensures.1 in
    rw (p.1, p.2) (λ job prices input leaf_is a.
    ends_unwritten_in_time job prices _ _ _ a _ c.in-Some.ensures.next c.in-Some.ensures.there _ leaf_is _ _ c.in_ok-outcome.ensures.fired _ _ c.in_err-self.ensures.begun c.in_err-self.ensures.cause)

pub returns-clause-steps : goal.returns-clause-steps
returns-clause-steps g c = λ job prices input leaf_is a.
    went_in_time job prices _ _ _ a _ c.in-Some.ensures.next c.in-Some.ensures.there _ leaf_is _ _ c.in_ok-outcome.ensures.fired _ c.in_ok-outcome.ensures.item c.fired.ensures _ _ c.in_ok-self.ensures.trap c.in_ok-self.ensures.sum c.in_ok-self.ensures.put c.in_ok-self.ensures.cause

pub returns-in_err-self-clause-wants : goal.returns-in_err-self-clause-wants
returns-in_err-self-clause-wants g c =
    let p = err_from_is_err_and c.from_residual-in_err-self.result c.from_residual-in_err-self.ensures.1 in
    rw (p.1, p.2) (c.in_err-self.ensures.wants g.U.Units.may_want)
