use Rattle.std.proofs.Common.{◌≡◌, ◌+◌, ◌≤◌, [], length}
use Rattle.p3l_code.specs.Machine.{machine}
use Rattle.p3l_code.specs.Stacked.{HasRoom}
use Rattle.p3l_code.specs.Run.{rank, IsAt}
use Rattle.p3l_code.specs.Counting.{HasDone}
use Rattle.p3l_code.proofs.run.count.Given as goal

abbrev pub decreases-steps : goal.decreases-steps
decreases-steps l = rank l.code l.pc l.turns

-- the machine continues from here as it began, and the count is that of the instructions it has done
abbrev pub invariant-steps : goal.invariant-steps
invariant-steps l = record {
  same : machine l.code 0 [] l.fn.memory 0 ≡ machine l.code l.pc l.stack.words l.memory l.turns;
  room : HasRoom l.code l.stack.room;
  at : IsAt l.code l.pc (length l.stack.words);
  done : HasDone l.code l.fn.memory l.steps l.pc l.stack.words l.memory l.turns;
  falls : l.steps + rank l.code l.pc l.turns ≤ rank l.code 0 0;
}
