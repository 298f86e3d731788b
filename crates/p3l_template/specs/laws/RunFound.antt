-- WHAT IS FOUND IN A NODE THAT IS ONE PROCESS is what its part is.
use Rattle.std.proofs.Common.{◌≡◌, ℕ, ◌&&◌, true, List, [], ◌∷◌, refl, arith}
use Rattle.p3l_firing.specs.State.{State}
use Rattle.p3l_template.specs.Part.{Part, all_orderly}
use Rattle.p3l_template.specs.Placed.{proc_end, chan_end}
use Rattle.p3l_template.specs.Run.{run_shape}
use Rattle.p3l_template.specs.Shape.{Base, Role}
use Rattle.p3l_template.specs.Units.{Units}
use Rattle.p3l_template.specs.Finding.{AreSlots, EndsAt, IsFoundShape}
use Rattle.p3l_template.specs.RunKind.{run_finds}

run-ends : (node : ℕ) (units : Units) (roles : ℕ → Role) (base : Base) (parts : List Part) → AreSlots [] parts →
    EndsAt (run_shape node) base parts ((run_shape node).part units roles base parts)
unfolding AreSlots proc_end chan_end
run-ends node units roles base [] slotted = record { input = refl; output = refl; proc_to = refl; chan_to = omega arith }
run-ends node units roles base (P ∷ Ps) slotted = absurd slotted

run-orderly : (parts : List Part) (s : State) → AreSlots [] parts → true ≡ (all_orderly parts s && true)
unfolding AreSlots all_orderly
run-orderly [] s slotted = refl
run-orderly (P ∷ Ps) s slotted = absurd slotted

pub run_found : (node : ℕ) → IsFoundShape (run_shape node) run_finds
unfolding run_finds
run_found node = record {
  orderly = λ units roles base parts s slotted. run-orderly parts s slotted;
  pending = λ units roles base parts s slotted. refl;
  ends = run-ends node;
  laid = λ cap base. refl;
}
