use Rattle.std.proofs.Common.{sym, ap, ◌∙◌, [], subst}
use Rattle.p3l_net.specs.Machine.{Seen, IsSound, state_of}
use Rattle.p3l_net.specs.Steps.{HasEnds}
use Rattle.p3l_net.proofs.SoundLaw.{started_state, started_sound}
use Rattle.p3l_net.proofs.machine.Machine.start.Goals as goal

pub all_ready-requires-clause-sound : goal.all_ready-requires-clause-sound
all_ready-requires-clause-sound c = subst IsSound (sym c.in_ok-store.ensures) (started_sound c.args.tree.now c.args.net c.requires)

pub all_ready-requires-clause-sides : goal.all_ready-requires-clause-sides
all_ready-requires-clause-sides c = subst (λ (x : Seen). HasEnds x.net c.in_ok-sides.sides) (sym c.in_ok-store.ensures) c.in_ok-sides.ensures

pub invariant_of-result : goal.invariant_of-result
invariant_of-result c = record {
  sound = subst IsSound (sym c.in_ok-store.ensures) (started_sound c.args.tree.now c.args.net c.requires);
  agrees = c.in_ok-ready.ensures;
  sides = subst (λ (x : Seen). HasEnds x.net c.in_ok-sides.sides) (sym c.in_ok-store.ensures) c.in_ok-sides.ensures;
}

pub returns-clause-state : goal.returns-clause-state
returns-clause-state c =
    ap (λ (x : Seen). state_of x []) c.in_ok-store.ensures ∙ started_state c.args.tree.now c.args.net
