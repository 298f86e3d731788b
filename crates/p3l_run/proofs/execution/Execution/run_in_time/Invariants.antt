use Rattle.std.proofs.Common.{◌-◌, ◌^◌}
use Rattle.p3l_run.specs.Streams.{streams}
use Rattle.p3l_run.specs.Timed.{LeadsInTime}
use Rattle.p3l_run.proofs.execution.Execution.run_in_time.Given as goal

abbrev pub invariant-firings : goal.invariant-firings
invariant-firings g l =
    LeadsInTime (g.U.Units.leaf l.units) (streams (g.S.Source.observed l.fn.input) (g.K.Sink.observed l.fn.out))
    (streams (g.S.Source.observed l.input) (g.K.Sink.observed l.out)) l.fn.self l.self l.fn.timer l.timer

abbrev pub decreases-firings : goal.decreases-firings
decreases-firings g l = 2 ^ 63 - l.self.machine.fired
