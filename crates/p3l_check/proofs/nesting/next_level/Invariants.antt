use Rattle.std.proofs.Common.{◌≡◌, map, take}
use Rattle.p3l_check.specs.Levels.{is_nested_by}
use Rattle.p3l_check.proofs.nesting.next_level.Given as goal

abbrev pub invariant-loop-module : goal.invariant-loop-module
invariant-loop-module l = l.next.items ≡ map (is_nested_by l.level) (take l.module-index l.callables)
