use Rattle.std.proofs.Common.{ℕ, ◌<◌, ◌≤◌}
use Rattle.std.specs.List.{All}
use Rattle.p3l_firing.specs.Shot.{own_saved_at}
use Rattle.p3l_net.specs.Fitting.{IsTurning}
use Rattle.p3l_fitting.proofs.loops.held_turn.Given as goal

abbrev pub invariant-loop-p : goal.invariant-loop-p
invariant-loop-p l =
    (p : ℕ) → l.from ≤ p → p < l.p → All (IsTurning l.ring.depth l.ring.next l.ring.turns) (own_saved_at l.shot p).held
