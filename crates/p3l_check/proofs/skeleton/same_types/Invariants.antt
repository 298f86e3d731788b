use Rattle.std.proofs.Common.{◌≡◌, drop}
use Rattle.p3l_check.specs.Skeleton.{same_types}
use Rattle.p3l_check.proofs.skeleton.same_types.Given as goal

-- the types of those that are left
abbrev pub invariant-loop-var : goal.invariant-loop-var
invariant-loop-var l = same_types (drop l.var-index l.vars) l.left ≡ same_types l.vars l.others
