use Rattle.std.proofs.Common.{◌≡◌, ◌+◌, drop}
use Rattle.p3l_compile.specs.Condition.{total}
use Rattle.p3l_compile.proofs.body.total.Given as goal

-- the words so far, and those of the variables that are left
abbrev pub invariant-loop-var : goal.invariant-loop-var
invariant-loop-var l = l.words + total (drop l.var-index l.vars) ≡ total l.vars
