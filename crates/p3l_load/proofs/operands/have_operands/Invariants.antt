use Rattle.std.proofs.Common.{take}
use Rattle.std.specs.List.{All}
use Rattle.p3l_load.specs.Written.{HasAllOperands}
use Rattle.p3l_load.proofs.operands.have_operands.Given as goal

-- the codes so far
abbrev pub invariant-loop-code : goal.invariant-loop-code
invariant-loop-code l = All HasAllOperands (take l.code-index l.codes)
