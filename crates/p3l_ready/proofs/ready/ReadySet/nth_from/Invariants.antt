use Rattle.std.proofs.Common.{◌≡◌, ◌+◌, ◌-◌}
use Rattle.p3l_ready.specs.Flags.{flag_at, count_from}
use Rattle.p3l_ready.proofs.ready.ReadySet.nth_from.Given as goal

abbrev pub invariant-loop-p : goal.invariant-loop-p
invariant-loop-p l = l.left + count_from (flag_at l.self) l.start (l.p - l.start) ≡ l.k
