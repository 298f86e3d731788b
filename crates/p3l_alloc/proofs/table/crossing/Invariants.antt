use Rattle.std.proofs.Common.{◌-◌, ◌<◌, ◌≤◌}
use Rattle.std.specs.Prelude.{slice_index_or}
use Rattle.p3l_model.specs.NodeCost.{never}
use Rattle.p3l_alloc.proofs.table.crossing.Given as goal

-- the times cross from low to high
abbrev pub invariant-loop-low : goal.invariant-loop-low
invariant-loop-low l = record {
  order : l.low ≤ l.high;
  within : l.high ≤ l.processes;
  before : 0 < l.low → slice_index_or l.others (l.processes - (l.low - 1)) never < slice_index_or l.first (l.low - 1) never;
  from : l.high < l.processes → slice_index_or l.first l.high never ≤ slice_index_or l.others (l.processes - l.high) never;
}

abbrev pub decreases-loop-low : goal.decreases-loop-low
decreases-loop-low l = l.high - l.low
