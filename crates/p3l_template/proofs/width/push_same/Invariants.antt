use Rattle.std.proofs.Common.{◌≡◌, ◌++◌, replicate}
use Rattle.p3l_template.proofs.width.push_same.Given as goal

abbrev pub invariant-loop : goal.invariant-loop
invariant-loop l = l.row ≡ l.fn.row ++ replicate l.counter l.width
