use Rattle.std.proofs.Common.{take}
use Rattle.std.specs.List.{All}
use Rattle.p3l_resume.specs.Ranges.{AreInRange}
use Rattle.p3l_resume.proofs.ranges.look_at_chans.Given as goal

-- those so far
abbrev pub invariant-loop-tokens : goal.invariant-loop-tokens
invariant-loop-tokens l = All AreInRange (take l.tokens-index l.chans)
