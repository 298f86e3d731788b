use Rattle.std.proofs.Common.{◌≡◌, ◌++◌, replicate}
use Rattle.p3l_rewrite.proofs.serving.put_times.Given as goal

abbrev pub invariant-loop : goal.invariant-loop
invariant-loop l = l.all.items ≡ l.fn.all.items ++ replicate l.counter l.number
