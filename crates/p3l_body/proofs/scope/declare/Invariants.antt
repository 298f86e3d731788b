use Rattle.std.proofs.Common.{◌≡◌, ◌≤◌, ◌++◌, map, drop}
use Rattle.p3l_body.specs.Scope.{named, declared}
use Rattle.p3l_body.proofs.Declared.{declared_after}
use Rattle.p3l_body.proofs.scope.declare.Given as goal

-- the variables so far with those of the rest, and their names
abbrev pub invariant-loop-port : goal.invariant-loop-port
invariant-loop-port l =
    (declared_after l.fault l.is_fixed l.consts l.scope l.words l.vars (drop l.port-index l.ports)
    ≡ declared l.fault l.is_fixed l.consts l.initial.scope 0 l.ports)
    × (l.scope ≡ l.initial.scope ++ map (named l.is_fixed) l.vars)
    × (l.words ≤ 65536)
