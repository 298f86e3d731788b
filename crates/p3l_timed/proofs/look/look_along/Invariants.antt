use Rattle.std.proofs.Common.{◌≡◌, ℕ, List, ◌++◌, Option, length, drop}
use Rattle.p3l_timed.specs.Clock.{IsOnTheWay}
use Rattle.p3l_timed.specs.Price.{price_at}
use Rattle.p3l_timed.proofs.look.look_along.Given as goal

-- the channels that are left are still to be looked at
abbrev pub invariant-loop-channel : goal.invariant-loop-channel
invariant-loop-channel l =
    record {
      size : length l.moments ≡ length l.fn.moments;
      way : (p : ℕ) (cs : List ℕ) (before : ℕ → Option ℕ)
          → IsOnTheWay l.machine (price_at l.prices) l.moment p (l.channels ++ cs) before l.fn.moments
          → IsOnTheWay l.machine (price_at l.prices) l.moment p (drop l.channel-index l.channels ++ cs) before l.moments;
    }
