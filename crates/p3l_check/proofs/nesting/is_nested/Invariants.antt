use Rattle.p3l_check.specs.Levels.{IsLevel}
use Rattle.p3l_check.proofs.nesting.is_nested.Given as goal

abbrev pub invariant-levels : goal.invariant-levels
invariant-levels l = IsLevel l.callables l._depth l.level.items
