-- Carry of every state of a run of a linked net.
use Rattle.std.proofs.Common.{◌≡◌, ℕ, ℤ, true, List, [], ◌∷◌, Some, slice_get, refl, sym, subst, inl, inr}
use Rattle.std.proofs.lemmas.Bool.{cases_Bool, cond-true, cond-false}
use Rattle.p3l_firing.specs.declared.net.Net.{Net}
use Rattle.p3l_firing.specs.declared.process.Proc.{Proc}
use Rattle.p3l_firing.specs.NetInvariants.{HaveInWords}
use Rattle.p3l_firing.specs.Fire.{can_fire, fire}
use Rattle.p3l_firing.specs.Run.{Course, after_picks, course_from, picked}
use Rattle.p3l_firing.specs.State.{State, first_state}
use Rattle.p3l_firing.specs.Typed.{IsFitting, IsTyped}
use Rattle.p3l_template.specs.Units.{Units}
use Rattle.p3l_link.specs.Laws.{IsLinkable, IsOrderly, linked_run, net_of}
use Rattle.p3l_link.proofs.LinkedLaws.{fired, fired_fitting, first_fitting, run_begun}
use Rattle.p3l_net.specs.Fitting.{LoopPlace}
use Rattle.p3l_resume_laws.specs.Traps.{TrapsNameModules}
use Rattle.p3l_resume_laws.proofs.Credits.{IsAny, IsCreditThere, credits_handed}
use Rattle.p3l_resume_laws.proofs.Marks.{AllAre, are_at_first, fired_are}
use Rattle.p3l_resume_laws.proofs.Owns.{HoldsOne, fired_holds, fresh_holds}
use Rattle.p3l_resume_laws.proofs.Traps.{IsNamed, named_handed}
use Rattle.p3l_resume_laws.proofs.Turning.{IsClosed, IsTurned, fired_turned, first_turned}

module _ (units : Units) (counts : List ℕ) (cap : ℕ) (l : IsLinkable units counts cap) (named : TrapsNameModules units.tree units.leaf)
    (typed : IsTyped units.tree (net_of units counts cap)) where
  abbrev net : Net
  net = net_of units counts cap

  -- the root is orderly, each token has the words and tags of its place, where no words are carried are credits alone, traps name modules,
  -- a process that sends a token in pieces holds one at most, and in each loop that is closed tokens are in its turns
  pub record IsKept (s : State) : Type 0 where
    pub orderly : IsOrderly units counts s
    pub fitting : IsFitting units.tree (net_of units counts cap) typed.widths s
    pub credits : AllAre (IsCreditThere typed.widths) IsAny s
    pub traps : AllAre (IsNamed units.tree) (IsNamed units.tree) s
    pub one : (p : ℕ) (q : Proc) → slice_get (net_of units counts cap).procs p ≡ Some q → HoldsOne q.kind (s.own p)
    pub turned : (place : LoopPlace) (h t : Proc) (closed : IsClosed (net_of units counts cap) typed.widths place h t)
        → IsTurned units.tree units.leaf (net_of units counts cap) typed place h t closed s

  kept_first : (items : List (List ℤ)) → HaveInWords units.tree items → IsKept (first_state net items)
  unfolding first_state
  kept_first items long = record {
    orderly = (run_begun units counts cap items l long).orderly;
    fitting = first_fitting units counts cap typed items long;
    credits = are_at_first (IsCreditThere typed.widths) IsAny net items (λ c some none. refl);
    traps = are_at_first (IsNamed units.tree) (IsNamed units.tree) net items (λ c some. tt);
    one = λ p q stands. fresh_holds q.kind;
    turned = λ place h t closed. first_turned units.tree units.leaf net typed place h t closed items;
  }

  kept_fired : (s : State) (p : ℕ) → can_fire units.tree net s p ≡ true → IsKept s → IsKept (fire units.tree units.leaf net s p)
  kept_fired s p can k = record {
    orderly = (fired units counts cap s p l k.orderly can).orderly;
    fitting = fired_fitting units counts cap typed s p l.gives k.fitting can;
    credits = fired_are (IsCreditThere typed.widths) IsAny units.tree units.leaf net typed s k.fitting k.credits p can
        (λ q stands. credits_handed units.tree typed.lawful typed.widths q units.leaf p q.kind (typed.processes p q stands));
    traps = fired_are (IsNamed units.tree) (IsNamed units.tree) units.tree units.leaf net typed s k.fitting k.traps p can
        (λ q stands. named_handed units.tree typed.lawful units.leaf named typed.widths p q q.kind);
    one = λ r q stands. fired_holds units.tree units.leaf net s p r q stands (k.one r q stands);
    turned = λ place h t closed. fired_turned units.tree units.leaf net typed place h t closed s k.fitting (k.turned place h t closed) p can;
  }

  kept_picked : (c : Course) (p : ℕ) → IsKept c.state → IsKept (picked units.tree units.leaf net c p).state
  unfolding picked
  kept_picked c p k =
      elim (cases_Bool (can_fire units.tree net c.state p)) [
        | inl can ↦ subst (λ (x : Course). IsKept x.state) (sym (cond-true _ _ _ can)) (kept_fired c.state p can k)
        | inr cannot ↦ subst (λ (x : Course). IsKept x.state) (sym (cond-false _ _ _ cannot)) k
      ]

  kept_picks : (c : Course) (picks : List ℕ) → IsKept c.state → IsKept (after_picks units.tree units.leaf net c picks).state
  unfolding after_picks
  kept_picks c [] k = k
  kept_picks c (p ∷ picks) k = kept_picks (picked units.tree units.leaf net c p) picks (kept_picked c p k)

  -- whatever the picks, what a run reaches keeps all of it
  pub run_kept : (items : List (List ℤ)) (picks : List ℕ) → HaveInWords units.tree items →
      IsKept (linked_run units counts cap items picks).state
  run_kept items picks long = kept_picks (course_from (first_state net items)) picks (kept_first items long)
