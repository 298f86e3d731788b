-- The saved state of a machine that runs a linked net is sound.
use Rattle.std.specs.Prelude.{◌≡◌, ℕ, ℤ, List}
use Rattle.p3l_base.specs.declared.outcome.Outcome.{Outcome}
use Rattle.p3l_firing.specs.NetInvariants.{HaveInWords}
use Rattle.p3l_firing.specs.Typed.{IsTyped}
use Rattle.p3l_firing.specs.Shot.{IsCountable}
use Rattle.p3l_firing.specs.declared.shot.Shot.{Shot}
use Rattle.p3l_net.specs.Machine.{IsShaped, Seen}
use Rattle.p3l_net.specs.Offered.{Follows}
use Rattle.p3l_net.specs.Shot.{shot_of}
use Rattle.p3l_template.specs.Units.{Units}
use Rattle.p3l_link.specs.Laws.{IsLinkable, linked_run, net_of}
use Rattle.p3l_orderly.specs.Sound.{IsSound}
use Rattle.p3l_resume_laws.specs.Traps.{TrapsNameModules}

-- a machine is where a run of a linked net is on items under picks: it has emitted these outcomes, and these items were not offered yet
pub record IsOfRun (units : Units) (counts : List ℕ) (cap : ℕ) (items : List (List ℤ)) (picks : List ℕ) (m : Seen)
    (outcomes : List Outcome) (rest : List (List ℤ)) : Type 0 where
  pub net : m.net ≡ net_of units counts cap
  pub shaped : IsShaped m
  pub follows : Follows m outcomes rest (linked_run units counts cap items picks)

-- a shot is sound, of the net that is linked for a tree under these counts
abbrev pub IsSoundShot : Units → List ℕ → (cap : ℕ) → Shot → Type 0
IsSoundShot units counts cap shot = IsSound units counts (net_of units counts cap) shot

-- whatever the picks, what is saved of a machine in that state is sound, as long as what was counted is below 2^63
abbrev pub EverySavedShotIsSound : Type 0
EverySavedShotIsSound =
    (units : Units) (counts : List ℕ) (cap : ℕ) (items : List (List ℤ)) (picks : List ℕ) (m : Seen) (outcomes : List Outcome)
    (rest : List (List ℤ))
    → IsTyped units.tree (net_of units counts cap) → IsLinkable units counts cap → TrapsNameModules units.tree units.leaf
    → HaveInWords units.tree items → IsOfRun units counts cap items picks m outcomes rest → IsCountable (shot_of m)
    → IsSoundShot units counts cap (shot_of m)
