use Rattle.std.proofs.Common.{◌≡◌, [], take, drop}
use Rattle.p3l_calls.specs.Index.{members_rule}
use Rattle.p3l_calls.proofs.index.check_members.Given as goal

-- the brackets that are left, after those so far
abbrev pub invariant-loop-k : goal.invariant-loop-k
invariant-loop-k l = members_rule l.indices (take l.k l.subs) (drop l.k l.subs) ≡ members_rule l.indices [] l.subs
