-- Saved states of machines that run linked nets can be restored, resumed and written.
use Rattle.std.proofs.Common.{◌≡◌, ℕ, List, [], length, refl, ap, ◌∙◌, arith}
use Rattle.p3l_base.specs.declared.outcome.Outcome.{Outcome}
use Rattle.p3l_firing.specs.State.{State}
use Rattle.p3l_firing.specs.declared.token.Token.{Token}
use Rattle.p3l_firing.specs.declared.shot.Shot.{Shot}
use Rattle.p3l_net.specs.Machine.{state_of}
use Rattle.p3l_net.specs.Shot.{restored}
use Rattle.p3l_template.specs.Part.{Part}
use Rattle.p3l_template.specs.Units.{Units}
use Rattle.p3l_link.specs.Laws.{IsLinkable, net_of}
use Rattle.p3l_link.specs.Part.{root_part}
use Rattle.p3l_link.proofs.NetInvariants.{root_sound}
use Rattle.p3l_fitting.specs.Survey.{linked_widths}
use Rattle.p3l_fitting.proofs.Restored.{can_restore, state_same}
use Rattle.p3l_resume.specs.Ranges.{WhatHasFewItemsCanBeWritten}
use Rattle.p3l_resume_laws.specs.Saved.{EveryBalancedShotIsBalanced, EveryFittingShotCanBeRestored, EveryFittingShotCanBeWritten, EveryOrderlyShotCanResume, saved_state}
use Rattle.p3l_resume_laws.specs.Widths.{EveryLinkedNetCarriesItsWidths}
use Rattle.p3l_resume_laws.proofs.FewItems.{few_items}
use Rattle.p3l_resume_laws.proofs.Rooms.{net_small}

module _ (carries : EveryLinkedNetCarriesItsWidths) where
  pub fitting_restores : EveryFittingShotCanBeRestored
  fitting_restores tree counts cap shot typed lawfully fitting =
      can_restore tree _ typed (linked_widths tree counts) shot (carries tree counts cap typed lawfully) fitting.fits

  -- the same state, whatever was emitted
  module _ (units : Units) (counts : List ℕ) (cap : ℕ) (l : IsLinkable units counts cap) (shot : Shot) (emitted : List Outcome) where
    abbrev before : State
    before = saved_state units counts cap shot []

    abbrev now : State
    now = saved_state units counts cap shot emitted

    abbrev P : Part
    P = root_part units counts

    same_orderly : P.orderly now ≡ P.orderly before
    unfolding state_of restored
    same_orderly =
        ((root_sound units counts cap l.lawful l.fit l.room).lawful.reads before now
        (record { tokens = λ c from to. refl; own = λ p from to. refl })).orderly

    same_pending : P.pending now ≡ P.pending before
    unfolding state_of restored
    same_pending =
        ((root_sound units counts cap l.lawful l.fit l.room).lawful.reads before now
        (record { tokens = λ c from to. refl; own = λ p from to. refl })).pending

  pub orderly_resumes : EveryOrderlyShotCanResume
  unfolding state_of restored
  orderly_resumes units counts cap typed shot emitted l fitting orderly untrapped =
      let agree = carries units.tree counts cap typed l.fit in
      let state = state_same units.tree (net_of units counts cap) typed (linked_widths units.tree counts) shot agree
      (saved_state units counts cap shot []) fitting.fits.state in
      record {
        orderly = record { root = same_orderly units counts cap l shot emitted ∙ orderly.root; items = orderly.items };
        fitting = record { rooms = state.rooms; tokens = state.tokens; owns = state.owns; unsent = state.unsent };
        untrapped = untrapped;
      }

  pub balanced_stays : EveryBalancedShotIsBalanced
  unfolding state_of restored
  balanced_stays units counts cap shot emitted l balanced many =
      let pending = ap (λ (xs : List Token). length xs) (same_pending units counts cap l shot emitted) in
      omega (arith, balanced, many, pending)

  pub fitting_written : WhatHasFewItemsCanBeWritten → EveryFittingShotCanBeWritten
  fitting_written written tree counts cap saved typed lawfully few fitting ranges image =
      let can = fitting_restores tree counts cap saved.shot typed lawfully fitting in
      written saved ranges (few_items tree _ can.typed (net_small cap few tree counts can.typed.lawful) saved.shot can.fits fitting.held) image
