use Rattle.std.proofs.Common.{take}
use Rattle.std.specs.List.{All}
use Rattle.p3l_resume.specs.Ranges.{IsInRange}
use Rattle.p3l_resume.proofs.ranges.look_at_tokens.Given as goal

-- those so far
abbrev pub invariant-loop-token : goal.invariant-loop-token
invariant-loop-token l = All IsInRange (take l.token-index l.tokens)
