use Rattle.std.proofs.Common.{refl}
use Rattle.p3l_skel.specs.Fold.{fold_of_up_to}
use Rattle.p3l_skel.proofs.laws.gives_hand_values.Goals as goal

pub returns : goal.returns
unfolding fold_of_up_to
returns c = record { product = refl; differences = refl; six_turns = refl; one_turn = refl; spent = refl; first_trap = refl; rescued_trap = refl; rescued_stage = refl; earlier_trap = refl }
