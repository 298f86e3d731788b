use Rattle.std.proofs.Common.{◌≡◌, ◌<◌, ◌≤◌, ℕ, None, length}
use Rattle.p3l_net.specs.Machine.{can_step}
use Rattle.p3l_timed.specs.Moments.{due_at}
use Rattle.p3l_timed.specs.Due.{renewed}
use Rattle.p3l_timed.specs.Price.{price_at}
use Rattle.p3l_timed.proofs.look.look_at_all.Given as goal

-- those that were looked at are due where they can fire, and no other
abbrev pub invariant-loop-r : goal.invariant-loop-r
invariant-loop-r l =
    record {
      size : length l.moments ≡ length l.fn.moments;
      due : (r : ℕ) → r < l.r → due_at l.moments r ≡ renewed (can_step l.machine) (price_at l.prices) 0 (λ q. None) r;
      rest : (r : ℕ) → l.r ≤ r → due_at l.moments r ≡ None;
    }
