use Rattle.std.proofs.Common.{take}
use Rattle.std.specs.List.{All}
use Rattle.p3l_firing.specs.declared.shot.Own.{Own}
use Rattle.p3l_resume.specs.Ranges.{AreInRange}
use Rattle.p3l_resume.proofs.ranges.look_at_owns.Given as goal

-- those so far
abbrev pub invariant-loop-own : goal.invariant-loop-own
invariant-loop-own l = All (λ (own : Own). AreInRange own.held) (take l.own-index l.owns)
