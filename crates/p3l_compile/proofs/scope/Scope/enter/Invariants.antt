use Rattle.std.proofs.Common.{◌≡◌, ◌+◌, ◌++◌, drop}
use Rattle.std.specs.List.{AllByRecursion}
use Rattle.p3l_compile.specs.Scope.{slots_from}
use Rattle.p3l_compile.specs.Condition.{total, AreFresh, IsArray}
use Rattle.p3l_compile.proofs.scope.Scope.enter.Given as goal

-- the variables so far were added, and those that are left can be
abbrev pub invariant-loop-var : goal.invariant-loop-var
invariant-loop-var l = record {
  lie : l.self.slots ++ slots_from l.base (drop l.var-index l.vars) ≡ l.fn.self.slots ++ slots_from l.from l.vars;
  constants : l.self.constants ≡ l.fn.self.constants;
  fresh : AreFresh l.self.slots l.base (drop l.var-index l.vars);
  arrays : AllByRecursion IsArray (drop l.var-index l.vars);
  room : l.base + total (drop l.var-index l.vars) ≡ l.from + total l.vars;
}
