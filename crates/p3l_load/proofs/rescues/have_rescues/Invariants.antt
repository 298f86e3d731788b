use Rattle.std.proofs.Common.{take}
use Rattle.std.specs.List.{All}
use Rattle.p3l_load.specs.Written.{HasRescueInRange}
use Rattle.p3l_load.proofs.rescues.have_rescues.Given as goal

-- the modules so far
abbrev pub invariant-loop-info : goal.invariant-loop-info
invariant-loop-info l = All HasRescueInRange (take l.info-index l.modules)
