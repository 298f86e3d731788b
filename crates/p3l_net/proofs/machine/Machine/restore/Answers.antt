use Rattle.std.proofs.Common.{subst, sym}
use Rattle.p3l_net.specs.Machine.{Seen, IsSound}
use Rattle.p3l_net.specs.Shot.{restored}
use Rattle.p3l_net.specs.Steps.{HasEnds}
use Rattle.p3l_net.proofs.Saving.{fits_held, restored_sound}
use Rattle.p3l_net.proofs.machine.Machine.restore.Goals as goal

pub restore-requires : goal.restore-requires
restore-requires c = fits_held c.args.tree.now c.args.net c.requires.typed.widths c.requires.typed.few_tags c.args.shot c.requires.fits

pub all_ready-requires-clause-sound : goal.all_ready-requires-clause-sound
all_ready-requires-clause-sound c = subst IsSound (sym c.in_ok-store.ensures) (restored_sound c.args.tree.now c.args.net c.args.shot c.requires)

pub all_ready-requires-clause-sides : goal.all_ready-requires-clause-sides
unfolding restored
all_ready-requires-clause-sides c = subst (λ (m : Seen). HasEnds m.net c.in_ok-sides.sides) (sym c.in_ok-store.ensures) c.in_ok-sides.ensures

pub invariant_of-result : goal.invariant_of-result
unfolding restored
invariant_of-result c = record {
  sound = subst IsSound (sym c.in_ok-store.ensures) (restored_sound c.args.tree.now c.args.net c.args.shot c.requires);
  agrees = c.in_ok-ready.ensures;
  sides = subst (λ (m : Seen). HasEnds m.net c.in_ok-sides.sides) (sym c.in_ok-store.ensures) c.in_ok-sides.ensures;
}
