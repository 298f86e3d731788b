use Rattle.std.proofs.Common.{◌≡◌, drop, unwrap_or}
use Rattle.p3l_check.specs.Environment.{before_of}
use Rattle.p3l_check.specs.Skeleton.{staged}
use Rattle.p3l_check.proofs.Stages.{staged_after}
use Rattle.p3l_check.proofs.skeleton.staged.Given as goal

-- the calls so far, with those of the rest
abbrev pub invariant-loop-i : goal.invariant-loop-i
invariant-loop-i l =
    staged_after l.numbers l.in_process (before_of l.env) l.scope (unwrap_or l.handed l.ports.ins) l.ports.outs (drop l.i l.calls)
    ≡ staged l.in_process (before_of l.env) l.initial.scope l.ports.ins l.ports.outs l.calls
