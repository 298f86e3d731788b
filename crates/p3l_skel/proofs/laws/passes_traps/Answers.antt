use Rattle.std.proofs.Common.{◌≡◌, ℕ, ℤ, List, [], ◌∷◌, refl}
use Rattle.p3l_base.specs.declared.outcome.Outcome.{Outcome}
use Rattle.p3l_base.specs.declared.outcome.Outcome.TheVariants.{Trapped}
use Rattle.p3l_base.specs.declared.outcome.Trap.{Trap}
use Rattle.p3l_skel.specs.Item.{in_order}
use Rattle.p3l_skel.proofs.laws.passes_traps.Goals as goal

in_order-trap : (meaning : ℕ → List ℤ → Outcome) (stages : List ℕ) (trap : Trap) → in_order meaning stages (Trapped trap) ≡ Trapped trap
in_order-trap meaning [] trap = refl
in_order-trap meaning (p ∷ ps) trap = in_order-trap meaning ps trap

pub returns : goal.returns
returns g c = λ trap. record { node = λ k. refl; stages = λ stages. in_order-trap _ stages trap; results = λ join outcomes. refl }
