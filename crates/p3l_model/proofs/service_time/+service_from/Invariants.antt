use Rattle.std.proofs.Common.{◌≡◌, ◌-◌, ◌<◌, take}
use Rattle.p3l_skel.specs.Counts.{count_of}
use Rattle.p3l_model.specs.NodeCost.{never}
use Rattle.p3l_model.specs.Service.{service_by, greatest_by}
use Rattle.p3l_model.proofs.service_time.+service_from.Given as goal

abbrev pub decreases-service_from : goal.decreases-service_from
decreases-service_from l = l.levels

-- the slowest of the parts so far
abbrev pub invariant-loop-part : goal.invariant-loop-part
invariant-loop-part l = record {
  slowest : l.inner ≡ greatest_by (service_by l.tree l.costs (count_of l.tree l.counts.list) (l.levels - 1)) (take l.part-index l.part-items);
  small : l.inner < never;
}
