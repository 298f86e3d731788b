use Rattle.std.proofs.Common.{◌≡◌, drop}
use Rattle.p3l_calls.specs.Map.{map_ins}
use Rattle.p3l_calls.proofs.Slices.{ins_after}
use Rattle.p3l_calls.proofs.map.map_ins.Given as goal

-- the slices so far, with those of the arguments that are left
abbrev pub invariant-loop-k : goal.invariant-loop-k
invariant-loop-k l = ins_after l.indices l.vars l.slices (drop l.k l.ports) (drop l.k l.args) ≡ map_ins l.indices l.vars l.ports l.args
