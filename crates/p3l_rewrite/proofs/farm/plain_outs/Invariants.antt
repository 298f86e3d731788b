use Rattle.std.proofs.Common.{◌≡◌, map, take}
use Rattle.p3l_rewrite.specs.Candidates.{plain_out}
use Rattle.p3l_rewrite.proofs.farm.plain_outs.Given as goal

abbrev pub invariant-loop-port : goal.invariant-loop-port
invariant-loop-port l = l.args ≡ map plain_out (take l.port-index l.ports)
