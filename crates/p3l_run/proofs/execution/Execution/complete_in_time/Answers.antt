use Rattle.std.proofs.Common.{sym}
use Rattle.std.proofs.lemmas.Result.{err_from_is_err_and}
use Rattle.p3l_run.specs.Execution.{AwaitsPick}
use Rattle.p3l_run.specs.Streams.{streams}
use Rattle.p3l_run.specs.Timed.{under}
use Rattle.p3l_run.proofs.ExecutionSteps.{must_end, number_fits}
use Rattle.p3l_run.proofs.TimedSteps.{early_in_time, ended_in_time}
use Rattle.p3l_run.proofs.execution.Execution.complete_in_time.Goals as goal

pub returns-in_err-run_in_time-clause-ends : goal.returns-in_err-run_in_time-clause-ends
returns-in_err-run_in_time-clause-ends g c =
    let p = err_from_is_err_and c.from_residual.result c.from_residual.ensures.1 in
    rw (p.1, p.2) (λ job prices leaf_is named_is is. c.in_err-run_in_time.ensures.runs job prices leaf_is is)

pub into_ran-requires : goal.into_ran-requires
into_ran-requires g c =
    let way = c.requires.job in
    let over = c.in_ok-run_in_time.ensures.runs way.job way.prices way.leaf_is way.is in
    let now = streams (g.S.Source.observed c.run_in_time.new.input) (g.K.Sink.observed c.run_in_time.new.out) in
    let awaits : AwaitsPick (under way.job over.0.is.picks) now c.run_in_time.new.self = record { executes = over.0.is.executes; filled = over.0.filled } in
    record { fits = number_fits (under way.job over.0.is.picks) now c.run_in_time.new.self over.0.is.executes; ended = must_end (under way.job over.0.is.picks) now c.run_in_time.new.self awaits }

pub returns-in_err-ran-clause-ends : goal.returns-in_err-ran-clause-ends
returns-in_err-ran-clause-ends g c =
    let p = err_from_is_err_and c.from_residual-in_err-ran.result c.from_residual-in_err-ran.ensures.1 in
    rw (p.1, p.2) (λ job prices leaf_is named_is is. early_in_time job prices _ _ _ (c.in_ok-run_in_time.ensures.runs job prices leaf_is is).0.is)

pub returns-clause-ends : goal.returns-clause-ends
returns-clause-ends g c =
    λ job prices leaf_is named_is is.
    let over = c.in_ok-run_in_time.ensures.runs job prices leaf_is is in
    let ran = c.in_ok-ran.ensures in
    ended_in_time job prices _ _ _ over.0 over.1 c.args.tree.now (sym named_is) _ ran.finish ran.stats ran.lines ran.sum
