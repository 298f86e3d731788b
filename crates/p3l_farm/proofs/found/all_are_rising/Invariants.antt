use Rattle.std.proofs.Common.{◌≡◌, drop}
use Rattle.p3l_farm.specs.Farm.{all_rising}
use Rattle.p3l_farm.proofs.found.all_are_rising.Given as goal

abbrev pub invariant-loop-line : goal.invariant-loop-line
invariant-loop-line l = all_rising l.lines ≡ all_rising (drop l.line-index l.lines)
