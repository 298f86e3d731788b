use Rattle.p3l_run.specs.Execution.{LeadsOn, left_at}
use Rattle.p3l_run.specs.Streams.{streams}
use Rattle.p3l_run.proofs.execution.Execution.run_out.Given as goal

abbrev pub invariant-picks : goal.invariant-picks
invariant-picks g l =
    LeadsOn (g.U.Units.leaf l.units) (streams (g.S.Source.observed l.fn.input) (g.K.Sink.observed l.fn.out))
    (streams (g.S.Source.observed l.input) (g.K.Sink.observed l.out)) l.fn.self l.self

abbrev pub decreases-picks : goal.decreases-picks
decreases-picks g l = left_at l.self
