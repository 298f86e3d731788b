-- Of the outcomes emitted a firing reads only whether one is a trap.
use Rattle.std.proofs.Common.{◌≡◌, ℕ, not, ◌&&◌, List, [], sym, ap, ◌∙◌}
use Rattle.p3l_base.specs.declared.outcome.Outcome.{Outcome}
use Rattle.p3l_firing.specs.Fire.{is_ready, can_fire}
use Rattle.p3l_firing.proofs.row.{ready-emitted}
use Rattle.p3l_net.specs.Machine.{Seen, HasEmitted, can_step, state_of}

-- a machine's step is the state's, whatever outcomes of this kind were emitted
pub can_step-state : (m : Seen) (emitted : List Outcome) (p : ℕ) → HasEmitted m emitted → can_fire m.tree m.net (state_of m emitted) p ≡ can_step m p
unfolding can_fire state_of
can_step-state m emitted p has =
    ap (λ b. b && is_ready m.tree m.net (state_of m emitted) p) (ap not (sym has.trap))
    ∙ ap (λ b. not m.trapped && b) (ready-emitted m.tree m.net (state_of m []) emitted p)
