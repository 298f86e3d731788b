use Rattle.std.proofs.Common.{◌≡◌, replicate}
use Rattle.p3l_firing.specs.State.{fresh}
use Rattle.p3l_net.proofs.local_state.new_all.Given as goal

abbrev pub invariant-loop : goal.invariant-loop
invariant-loop l = l.locals.items ≡ replicate l.counter fresh
