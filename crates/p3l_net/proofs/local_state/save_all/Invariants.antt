use Rattle.std.proofs.Common.{◌≡◌, map, take}
use Rattle.p3l_firing.specs.Shot.{saved_own}
use Rattle.p3l_net.proofs.local_state.save_all.Given as goal

abbrev pub invariant-loop-local : goal.invariant-loop-local
invariant-loop-local l = l.saved ≡ map saved_own (take l.local-index l.locals)
