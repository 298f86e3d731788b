use Rattle.std.proofs.Common.{◌≡◌, ◌<◌, ℕ, length}
use Rattle.p3l_ready.specs.Flags.{flag_at}
use Rattle.p3l_net.specs.Steps.{ready_at}
use Rattle.p3l_net.proofs.refresh.all_ready.Given as goal

abbrev pub invariant-loop-r : goal.invariant-loop-r
invariant-loop-r l =
    record { size : length l.ready ≡ length l.store.net.procs; right : (r : ℕ) → r < l.r → flag_at l.ready r ≡ ready_at l.store r }
