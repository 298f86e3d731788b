use Rattle.std.proofs.Common.{◌≡◌, ◌+◌, take}
use Rattle.p3l_run.specs.Network.{network}
use Rattle.p3l_io.specs.Change.{change}
use Rattle.p3l_run.specs.Comparison.{Walks}
use Rattle.p3l_run.proofs.retrace.retrace.Given as goal

abbrev pub invariant-loop-line : goal.invariant-loop-line
invariant-loop-line g l = record {
  walks : Walks (network l.fn.plan.tree.now (g.U.Units.leaf l.fn.plan.units.now) l.fn.plan.net l.fn.plan.firings) (change (g.S.Source.observed l.fn.input) (g.S.Source.observed l.input))
      (take l.line-index l.fn.traced.lines) l.comparison;
  number : l.number ≡ l.line-index + 1;
}
