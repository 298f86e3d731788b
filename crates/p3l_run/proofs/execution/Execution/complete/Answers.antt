use Rattle.std.proofs.Common.{sym}
use Rattle.std.proofs.lemmas.Result.{err_from_is_err_and}
use Rattle.p3l_run.specs.Streams.{streams}
use Rattle.p3l_run.proofs.ExecutionSteps.{ends_early, ends_over, must_end, number_fits}
use Rattle.p3l_run.proofs.execution.Execution.complete.Goals as goal

pub returns-in_err-run_out-clause-ends : goal.returns-in_err-run_out-clause-ends
returns-in_err-run_out-clause-ends g c =
    let p = err_from_is_err_and c.from_residual.result c.from_residual.ensures.1 in
    rw (p.1, p.2) (λ job leaf_is named_is d. c.in_err-run_out.ensures.runs job leaf_is d)

pub into_ran-requires : goal.into_ran-requires
into_ran-requires g c =
    let way = c.requires.job in
    let over = c.in_ok-run_out.ensures.runs way.job way.leaf_is way.executes in
    record { fits = number_fits way.job (streams (g.S.Source.observed c.run_out.new.input) (g.K.Sink.observed c.run_out.new.out)) c.run_out.new.self over.0.executes; ended = must_end way.job (streams (g.S.Source.observed c.run_out.new.input) (g.K.Sink.observed c.run_out.new.out)) c.run_out.new.self over.0 }

pub returns-in_err-into_ran-clause-ends : goal.returns-in_err-into_ran-clause-ends
returns-in_err-into_ran-clause-ends g c =
    let p = err_from_is_err_and c.from_residual-in_err-into_ran.result c.from_residual-in_err-into_ran.ensures.1 in
    rw (p.1, p.2) (λ job leaf_is named_is d. ends_early job (streams (g.S.Source.observed c.run_out.new.input) (g.K.Sink.observed c.run_out.new.out)) c.run_out.new.self (c.in_ok-run_out.ensures.runs job leaf_is d).0.executes)

pub returns-clause-ends : goal.returns-clause-ends
returns-clause-ends g c =
    λ job leaf_is named_is d.
    let over = c.in_ok-run_out.ensures.runs job leaf_is d in
    let ran = c.in_ok-into_ran.ensures in
    ends_over job (streams (g.S.Source.observed c.run_out.new.input) (g.K.Sink.observed c.run_out.new.out)) c.run_out.new.self over.0 over.1 c.args.named.now (sym named_is) _ ran.finish ran.stats ran.lines ran.sum
