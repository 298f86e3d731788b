-- Emits that may fire, and the steps of their firing.
use Rattle.std.proofs.Common.{◌≡◌, ℕ, ◌<◌, ◌&&◌, true, List, [], ◌∷◌, length, Some, None, slice_get, refl, sym, ap, ◌∙◌, arith}
use Rattle.std.specs.Option.{is_some}
use Rattle.std.proofs.lemmas.Bool.{and_parts}
use Rattle.p3l_base.specs.declared.outcome.Outcome.{Outcome}
use Rattle.p3l_firing.specs.declared.process.Proc.{Proc}
use Rattle.p3l_firing.specs.declared.process.ProcKind.TheVariants.{Emit}
use Rattle.p3l_firing.specs.Lists.{has_first, first_or}
use Rattle.p3l_firing.specs.Token.{credit, tagged}
use Rattle.p3l_firing.specs.Nodes.{Leaf}
use Rattle.p3l_firing.specs.State.{own_at, counted, pop, push, set_own}
use Rattle.p3l_firing.specs.Process.{in_of}
use Rattle.p3l_firing.specs.Fire.{row_can, row_fire}
use Rattle.p3l_firing.specs.kinds.Emit.{emptiest, sent_to, Fits}
use Rattle.p3l_firing.specs.kinds.Emit as row
use Rattle.p3l_firing.proofs.Places.{first_in, all-has}
use Rattle.p3l_firing.proofs.Reading.{same-everywhere}
use Rattle.p3l_firing.proofs.row.Emit.{emptiest-same, chosen_among, chosen_roomy}
use Rattle.p3l_net.specs.Channel.{tokens_at}
use Rattle.p3l_net.specs.Machine.{Seen, Stands, state_of}
use Rattle.p3l_net.specs.Steps.{CanTake, CanPut, Done, MayFire, ready_at}
use Rattle.p3l_net.proofs.StepLaw.{Step, Step.Take, Step.Put, Step.Keep, seen_after, state_after, done_as}
use Rattle.p3l_net.proofs.Standing.{here, is_kind, fits_as, reads_there, own_there, own_less, ready_as, can_take, can_put, first_fits}

module _ {m : Seen} {p : ℕ} {q : Proc} (h : Stands m p q) (kind : q.kind ≡ Emit) where
  pub fits_emit : Fits m.tree h.sound.typed.widths q
  fits_emit = fits_as h Emit kind

  pub in_there : in_of q 0 < length m.queues
  in_there = reads_there h (in_of q 0) (first_in q.ins fits_emit.ins)

  pub is_ready : ready_at m p ≡ (has_first (tokens_at m.queues (in_of q 0)) && is_some (emptiest m.net (state_of m []) q.outs))
  unfolding row_can row.can state_of
  is_ready = ready_as h Emit kind

same_choice : (m : Seen) (es : List Outcome) (cs : List ℕ) → emptiest m.net (state_of m []) cs ≡ emptiest m.net (state_of m es) cs
unfolding state_of
same_choice m es cs = emptiest-same m.net (state_of m []) (state_of m es) cs (same-everywhere (state_of m []) (state_of m es) (λ c. refl) cs)

module _ {m : Seen} {p : ℕ} {q : Proc} (may : MayFire m p Emit) (stands : slice_get m.net.procs p ≡ Some q) where
  h : Stands m p q
  h = here may stands

  kind : q.kind ≡ Emit
  kind = is_kind may stands

  both : (has_first (tokens_at m.queues (in_of q 0)) ≡ true) × (is_some (emptiest m.net (state_of m []) q.outs) ≡ true)
  both = and_parts _ _ (sym (is_ready h kind) ∙ may.ready)

  pub takes : CanTake m (in_of q 0)
  takes = can_take h (in_of q 0) (first_in q.ins (fits_emit h kind).ins) both.0

  pub chooses : is_some (emptiest m.net (state_of m []) q.outs) ≡ true
  chooses = both.1

  -- the token that comes has a tag less than a token may have
  pub few_tags : (c : ℕ) → emptiest m.net (state_of m []) q.outs ≡ Some c → length (first_or credit (tokens_at m.queues (in_of q 0))).tags < 12
  few_tags c chosen =
      let fits = fits_emit h kind in
      let token = (first_fits h (in_of q 0) both.0).tags in
      let carries = (all-has _ q.outs fits.gives c (chosen_among m.net (state_of m []) (state_of m []) q.outs c chosen)).tags in
      let most = h.sound.typed.few_tags c in
      omega (arith, token, carries, most)

  module _ (c : ℕ) (chosen : emptiest m.net (state_of m []) q.outs ≡ Some c) where
    pub puts : CanPut m c
    puts = can_put h c (chosen_among m.net (state_of m []) (state_of m []) q.outs c chosen) (chosen_roomy m.net (state_of m []) q.outs c chosen)

    abbrev pub steps : List Step
    steps = Take (in_of q 0) ∷ (Put c (tagged (own_at m.owns p).number (first_or credit (tokens_at m.queues (in_of q 0)))) ∷ (Keep (counted (own_at m.owns p)) ∷ []))

    row_is : (leaf : Leaf) (es : List Outcome) → row_fire Emit m.tree leaf m.net (state_of m es) p (own_at m.owns p) q ≡ sent_to (Some c) (state_of m es) p (own_at m.owns p) q
    unfolding row_fire row.fire
    row_is leaf es = ap (λ x. sent_to x (state_of m es) p (own_at m.owns p) q) (sym (same_choice m es q.outs) ∙ chosen)

    sent_is : (es : List Outcome) → state_after p (state_of m es) steps ≡ sent_to (Some c) (state_of m es) p (own_at m.owns p) q
    unfolding sent_to pop push set_own state_of
    sent_is es = refl

    pub fired : (leaf : Leaf) (n : Seen) → n ≡ seen_after p m steps → (touched : List ℕ) → touched ≡ in_of q 0 ∷ (c ∷ []) → Done leaf m n p touched None
    fired leaf n is touched named =
        done_as h steps (first_in q.ins (fits_emit h kind).ins, (tt, (chosen_among m.net (state_of m []) (state_of m []) q.outs c chosen, (tt, tt)))) (takes.there, (puts.there, ((own_there h, own_less h), tt))) leaf Emit kind (λ es. sent_is es ∙ sym (row_is leaf es)) n is touched named
