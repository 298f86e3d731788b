use Rattle.std.proofs.Common.{◌≡◌, ◌-◌, ◌<◌, drop}
use Rattle.p3l_farm.specs.Farm.{rising}
use Rattle.p3l_farm.proofs.found.are_rising.Given as goal

abbrev pub invariant-loop-k : goal.invariant-loop-k
invariant-loop-k l = record { some : 0 < l.k; left : rising l.tokens ≡ rising (drop (l.k - 1) l.tokens) }
