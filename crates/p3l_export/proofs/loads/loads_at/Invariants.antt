use Rattle.std.proofs.Common.{◌≡◌, map, take}
use Rattle.p3l_export.specs.Loads.{load_of}
use Rattle.p3l_export.proofs.loads.loads_at.Given as goal

-- the loads so far
abbrev pub invariant-loop-process : goal.invariant-loop-process
invariant-loop-process l = l.loads.items ≡ map (load_of l.tree l.costs l.rates) (take l.process-index l.procs)
