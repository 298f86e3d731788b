use Rattle.std.proofs.Common.{ℕ, ◌<◌, ◌≤◌}
use Rattle.std.specs.List.{All}
use Rattle.p3l_firing.specs.Shot.{saved_at}
use Rattle.p3l_net.specs.Fitting.{IsTurning}
use Rattle.p3l_fitting.proofs.loops.sent_turn.Given as goal

abbrev pub invariant-loop-c : goal.invariant-loop-c
invariant-loop-c l = (c : ℕ) → l.from ≤ c → c < l.c → All (IsTurning l.ring.depth l.ring.next l.ring.turns) (saved_at l.shot c)
