use Rattle.std.proofs.Common.{◌≡◌, take}
use Rattle.p3l_types.proofs.consts.front.Given as goal

abbrev pub invariant-loop-k : goal.invariant-loop-k
invariant-loop-k l = l.front.entries ≡ take l.k l.values.entries
