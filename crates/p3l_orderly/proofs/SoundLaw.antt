-- A shot is sound where it fits and is orderly.
use Rattle.std.proofs.Common.{◌≡◌, ◌↔◌, ℕ, false, Bool, IsTrue, List, length, Result, Ok, Err, sym, ◌∙◌}
use Rattle.p3l_base.specs.Memory.{IfGiven}
use Rattle.p3l_base.specs.declared.NoMemory.{NoMemory}
use Rattle.p3l_skel.specs.declared.tree.Tree.{Tree}
use Rattle.p3l_firing.specs.Nodes.{Leaf}
use Rattle.p3l_firing.specs.declared.net.Net.{Net}
use Rattle.p3l_firing.specs.declared.shot.Shot.{Shot}
use Rattle.p3l_net.specs.Fitting.{Fitting}
use Rattle.p3l_template.specs.Units.{Units}
use Rattle.p3l_fitting.specs.Survey.{linked_loops, linked_widths}
use Rattle.p3l_orderly.specs.Root.{IsOrderlyShot}
use Rattle.p3l_orderly.specs.Sound.{IsSound}

module _ (units : Units) (counts : List ℕ) (net : Net) (shot : Shot) (fits : Bool)
    (fitting : IsTrue fits ↔ Fitting units.tree net (linked_widths units.tree counts) (linked_loops units.tree counts) shot) where
  pub unfit_unsound : fits ≡ false → IsTrue false ↔ IsSound units counts net shot
  unfit_unsound never = (λ h. absurd (cc h), λ s. absurd (cc (sym (fitting.1 s.fitting) ∙ never)))

-- whatever the units make of words, what the call for orderly shots answers of one that fits is whether it is sound
module _ (tree : Tree) (counts : List ℕ) (net : Net) (shot : Shot)
    (fitting : Fitting tree net (linked_widths tree counts) (linked_loops tree counts) shot) where
  abbrev units : Leaf → Units
  units leaf = record { tree = tree; leaf = leaf }

  pub answered_sound : (result : Result Bool NoMemory) →
      IfGiven result (λ yes. (leaf : Leaf) (net : Net) → length shot.chans ≡ length net.chans → IsTrue yes ↔ IsOrderlyShot (units leaf) counts net shot) →
      IfGiven result (λ yes. (leaf : Leaf) → IsTrue yes ↔ IsSound (units leaf) counts net shot)
  answered_sound (Ok orderly) is = λ leaf.
      let same = is leaf net fitting.fits.chans in (
        λ h. (let found = same.0 h in record { fitting = fitting; orderly = found.orderly; balanced = found.balanced }),
        λ s. same.1 (record { orderly = s.orderly; balanced = s.balanced }),
      )
  answered_sound (Err error) is = is
