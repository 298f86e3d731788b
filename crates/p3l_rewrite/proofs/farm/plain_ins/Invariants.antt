use Rattle.std.proofs.Common.{◌≡◌, map, take}
use Rattle.p3l_rewrite.specs.Candidates.{plain}
use Rattle.p3l_rewrite.proofs.farm.plain_ins.Given as goal

abbrev pub invariant-loop-port : goal.invariant-loop-port
invariant-loop-port l = l.args ≡ map plain (take l.port-index l.ports)
