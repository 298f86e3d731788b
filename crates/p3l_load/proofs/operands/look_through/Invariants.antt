use Rattle.std.proofs.Common.{◌≡◌, take}
use Rattle.std.specs.List.{All}
use Rattle.p3l_load.specs.Written.{HasOperands}
use Rattle.p3l_load.proofs.operands.look_through.Given as goal

-- the instructions so far
abbrev pub invariant-loop-instr : goal.invariant-loop-instr
invariant-loop-instr l = record {
  same : l.instr-items ≡ l.code.instrs;
  seen : All HasOperands (take l.instr-index l.instr-items);
}
