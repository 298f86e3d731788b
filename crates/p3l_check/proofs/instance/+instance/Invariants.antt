use Rattle.std.proofs.Common.{◌≡◌, ◌+◌, ◌-◌, ◌≤◌, length, take}
use Rattle.p3l_check.specs.Unfolding.{instance, instances_of, firsts_of}
use Rattle.p3l_check.proofs.instance.+instance.Given as goal

abbrev pub decreases-instance : goal.decreases-instance
decreases-instance l = l.levels

abbrev pub invariant-loop-call : goal.invariant-loop-call
invariant-loop-call l = record {
  nodes : l.below.items ≡ instances_of (instance l.callables (l.levels - 1)) (take l.call-index l.call-items) (l.at + 1);
  parts : l.parts ≡ firsts_of (instance l.callables (l.levels - 1)) (take l.call-index l.call-items) (l.at + 1);
  few : (l.at + 1) + length l.below.items ≤ 128;
}
