use Rattle.std.proofs.Common.{◌≡◌, ◌+◌, ◌*◌}
use Rattle.p3l_ready.specs.Flags.{flag_at, count_from}
use Rattle.p3l_ready.proofs.ready.ReadySet.block_of.Given as goal

abbrev pub invariant-loop-b : goal.invariant-loop-b
invariant-loop-b l = l.left + count_from (flag_at l.self) 0 (64 * l.b) ≡ l.k
