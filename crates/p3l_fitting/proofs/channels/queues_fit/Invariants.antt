use Rattle.std.proofs.Common.{ℕ, ◌<◌}
use Rattle.p3l_firing.specs.State.{chan_at}
use Rattle.p3l_firing.specs.Shot.{saved_at}
use Rattle.p3l_fitting.specs.Decided.{QueueFits}
use Rattle.p3l_template.specs.Width.{width_at}
use Rattle.p3l_fitting.proofs.channels.queues_fit.Given as goal

abbrev pub invariant-loop-c : goal.invariant-loop-c
invariant-loop-c l = (c : ℕ) → c < l.c → QueueFits l.tree (chan_at l.net c) (width_at l.row c) (saved_at l.shot c)
