use Rattle.std.proofs.Common.{◌≡◌, map, take}
use Rattle.p3l_firing.specs.Shot.{own_of}
use Rattle.p3l_net.proofs.local_state.restore_all.Given as goal

abbrev pub invariant-loop-own : goal.invariant-loop-own
invariant-loop-own l = l.locals.items ≡ map own_of (take l.own-index l.saved)
