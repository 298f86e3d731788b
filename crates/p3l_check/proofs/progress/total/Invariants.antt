use Rattle.std.proofs.Common.{◌≡◌, ◌+◌, drop}
use Rattle.p3l_calls.specs.Port.{total}
use Rattle.p3l_check.proofs.progress.total.Given as goal

-- the words so far, with those of the rest
abbrev pub invariant-loop-var : goal.invariant-loop-var
invariant-loop-var l = l.words + total (drop l.var-index l.vars) ≡ total l.vars
