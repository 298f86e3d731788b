use Rattle.std.proofs.Common.{◌≡◌, ◌≤◌, ◌+◌, drop}
use Rattle.p3l_calls.specs.Port.{total}
use Rattle.p3l_calls.specs.Map.{map_outs}
use Rattle.p3l_calls.proofs.Slices.{outs_after}
use Rattle.p3l_calls.proofs.map.map_outs.Given as goal

-- the slices so far, with those of the arguments that are left
abbrev pub invariant-loop-k : goal.invariant-loop-k
invariant-loop-k l = record {
  same : outs_after l.indices l.call l.slices l.start (drop l.k l.vars) (drop l.k l.ports) (drop l.k l.outs)
      ≡ map_outs l.indices l.call 0 l.vars l.ports l.outs;
  few : l.start + total (drop l.k l.vars) ≤ 65536;
}
