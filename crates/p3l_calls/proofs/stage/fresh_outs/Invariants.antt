use Rattle.std.proofs.Common.{◌≡◌, ◌≤◌, ◌++◌, map, drop}
use Rattle.std.specs.Prelude.{false}
use Rattle.p3l_body.specs.Scope.{named}
use Rattle.p3l_calls.specs.Stage.{fresh_outs}
use Rattle.p3l_calls.proofs.Fresh.{fresh_after}
use Rattle.p3l_calls.proofs.stage.fresh_outs.Given as goal

-- the new ports so far with those of the rest, and their names
abbrev pub invariant-loop-k : goal.invariant-loop-k
invariant-loop-k l = record {
  same : fresh_after l.consts l.scope l.words l.vars (drop l.k l.ports) (drop l.k l.outs)
      ≡ fresh_outs l.consts l.initial.scope 0 l.ports l.outs;
  names : l.scope ≡ l.initial.scope ++ map (named false) l.vars;
  few : l.words ≤ 65536;
}
