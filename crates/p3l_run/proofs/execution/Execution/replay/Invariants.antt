use Rattle.p3l_run.specs.Replay.{LeadsTo}
use Rattle.p3l_run.specs.Streams.{streams}
use Rattle.p3l_run.proofs.execution.Execution.replay.Given as goal

abbrev pub invariant-loop-process : goal.invariant-loop-process
invariant-loop-process g l =
    LeadsTo (g.U.Units.leaf l.units) l.picks l.process-index (streams (g.S.Source.observed l.fn.input) (g.K.Sink.observed l.fn.out))
    (streams (g.S.Source.observed l.input) (g.K.Sink.observed l.out)) l.fn.self l.self
