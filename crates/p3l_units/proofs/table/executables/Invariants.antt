use Rattle.std.proofs.Common.{◌≡◌, ◌++◌}
use Rattle.p3l_units.proofs.table.executables.Given as goal

-- the codes so far, and those that are left
abbrev pub invariant-loop-code : goal.invariant-loop-code
invariant-loop-code l = l.executables ++ l.code-iterator.rest.items ≡ l.fn.codes
