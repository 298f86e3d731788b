use Rattle.std.proofs.Common.{◌≡◌, ◌-◌, ◌≤◌, ◌+◌, None}
use Rattle.std.specs.List.{find, range_with_len}
use Rattle.p3l_ready.specs.Flags.{flag_at}
use Rattle.p3l_ready.proofs.ready.ReadySet.first_between.Given as goal

abbrev pub invariant-loop-p : goal.invariant-loop-p
invariant-loop-p l =
    record { low : l.fn.from ≤ l.p; high : l.p ≤ l.fn.to + 64; none : find (flag_at l.self) (range_with_len l.fn.from (l.p - l.fn.from)) ≡ None }

abbrev pub decreases-loop-p : goal.decreases-loop-p
decreases-loop-p l = l.to - l.p
