use Rattle.std.proofs.Common.{◌≡◌, ℕ, ◌+◌, List, ◌++◌, drop}
use Rattle.std.specs.Prelude.{bytes_eq}
use Rattle.std.specs.Map.{lookup}
use Rattle.p3l_calls.specs.Port.{total}
use Rattle.p3l_calls.specs.Located.{locations, located}
use Rattle.p3l_calls.proofs.located.locate.Given as goal

-- the ports so far followed by those of the rest give each name its port
abbrev pub invariant-loop-var : goal.invariant-loop-var
invariant-loop-var l = record {
  same : (name : List ℕ) → lookup (bytes_eq name) (l.table ++ locations l.start (drop l.var-index l.vars)) ≡ located l.vars name;
  words : l.start + total (drop l.var-index l.vars) ≡ total l.vars;
}
