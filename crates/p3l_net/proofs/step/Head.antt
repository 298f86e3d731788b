-- Heads that may fire, and the steps of their firing.
use Rattle.std.proofs.Common.{◌≡◌, ◌≢◌, ℕ, ◌+◌, ◌<◌, ◌&&◌, ◌||◌, true, false, List, [], ◌∷◌, length, Some, None, slice_get, slice_index, refl, sym, ap, ◌∙◌, inl, inr, arith}
use Rattle.std.proofs.lemmas.Bool.{and_parts, cond-true, cond-false}
use Rattle.p3l_base.specs.declared.outcome.Outcome.{Outcome}
use Rattle.p3l_firing.specs.declared.process.Proc.{Proc}
use Rattle.p3l_firing.specs.declared.process.ProcKind.TheVariants.{Head}
use Rattle.p3l_firing.specs.Lists.{has_first, first_or}
use Rattle.p3l_firing.specs.Token.{credit, admitted}
use Rattle.p3l_firing.specs.Nodes.{Leaf}
use Rattle.p3l_firing.specs.State.{own_at, counted, pop, push, set_own}
use Rattle.p3l_firing.specs.Process.{Has, in_of, out_of}
use Rattle.p3l_firing.specs.Fire.{row_can, row_fire}
use Rattle.p3l_firing.specs.kinds.Head.{sent_round, let_in, Fits}
use Rattle.p3l_firing.specs.kinds.Head as row
use Rattle.p3l_firing.proofs.Places.{first_in, has-nth, first_apart}
use Rattle.p3l_firing.proofs.row.Head.{three_long, comes_in}
use Rattle.p3l_net.specs.Channel.{tokens_at}
use Rattle.p3l_net.specs.Machine.{Seen, Stands, state_of}
use Rattle.p3l_net.specs.Steps.{CanTake, CanPut, Done, MayFire, ready_at, room_at}
use Rattle.p3l_net.proofs.StepLaw.{Step, Step.Take, Step.Put, Step.Keep, seen_after, state_after, done_as}
use Rattle.p3l_net.proofs.Standing.{here, is_kind, fits_as, reads_there, reads_chan, writes_there, own_there, own_less, ready_as, can_take, can_put, first_fits, room-seen}

module _ {m : Seen} {p : ℕ} {q : Proc} (h : Stands m p q) (kind : q.kind ≡ Head) where
  pub fits_head : Fits m.tree h.sound.typed.widths q
  fits_head = fits_as h Head kind

  pub in_long : length q.ins ≡ 3
  in_long = three_long q.ins _ _ _ fits_head.ins

  pub has_in : (k : ℕ) → k < 3 → Has q.ins (slice_index q.ins k)
  has_in k less = let long = in_long in has-nth q.ins k (omega (arith, long, less))

  pub in_there : (k : ℕ) → k < 3 → in_of q k < length m.queues
  in_there k less = reads_there h (in_of q k) (has_in k less)

  pub out_there : out_of q 0 < length m.queues
  out_there = writes_there h (out_of q 0) (first_in q.outs fits_head.outs)

  pub is_ready : ready_at m p ≡ (room_at m (out_of q 0) && (has_first (tokens_at m.queues (in_of q 1)) || (has_first (tokens_at m.queues (in_of q 0)) && has_first (tokens_at m.queues (in_of q 2)))))
  unfolding row_can row.can state_of
  is_ready =
      ready_as h Head kind
      ∙ ap (λ b. b && (has_first (tokens_at m.queues (in_of q 1)) || (has_first (tokens_at m.queues (in_of q 0)) && has_first (tokens_at m.queues (in_of q 2))))) (sym (room-seen m h.sound (out_of q 0)))

module _ {m : Seen} {p : ℕ} {q : Proc} (may : MayFire m p Head) (stands : slice_get m.net.procs p ≡ Some q) where
  h : Stands m p q
  h = here may stands

  kind : q.kind ≡ Head
  kind = is_kind may stands

  both : (room_at m (out_of q 0) ≡ true) × ((has_first (tokens_at m.queues (in_of q 1)) || (has_first (tokens_at m.queues (in_of q 0)) && has_first (tokens_at m.queues (in_of q 2)))) ≡ true)
  both = and_parts _ _ (sym (is_ready h kind) ∙ may.ready)

  pub puts : CanPut m (out_of q 0)
  puts = can_put h (out_of q 0) (first_in q.outs (fits_head h kind).outs) (sym (room-seen m h.sound (out_of q 0)) ∙ both.0)

  module _ (back : has_first (tokens_at m.queues (in_of q 1)) ≡ true) where
    pub takes_back : CanTake m (in_of q 1)
    takes_back = can_take h (in_of q 1) (has_in h kind 1 (omega arith)) back

    abbrev pub back_steps : List Step
    back_steps = Take (in_of q 1) ∷ (Put (out_of q 0) (first_or credit (tokens_at m.queues (in_of q 1))) ∷ [])

    row_back : (leaf : Leaf) (es : List Outcome) → row_fire Head m.tree leaf m.net (state_of m es) p (own_at m.owns p) q ≡ sent_round (state_of m es) q
    unfolding row_fire row.fire state_of
    row_back leaf es = cond-true (has_first (tokens_at m.queues (in_of q 1))) _ _ back

    sent_back : (es : List Outcome) → state_after p (state_of m es) back_steps ≡ sent_round (state_of m es) q
    unfolding sent_round pop push state_of
    sent_back es = refl

    pub fired_back : (leaf : Leaf) (n : Seen) → n ≡ seen_after p m back_steps → (touched : List ℕ) → touched ≡ in_of q 1 ∷ (out_of q 0 ∷ []) → Done leaf m n p touched None
    fired_back leaf n is touched named =
        done_as h back_steps (has_in h kind 1 (omega arith), (tt, (first_in q.outs (fits_head h kind).outs, (tt, tt)))) (takes_back.there, (puts.there, tt)) leaf Head kind (λ es. sent_back es ∙ sym (row_back leaf es)) n is touched named

  module _ (none : has_first (tokens_at m.queues (in_of q 1)) ≡ false) where
    new : (has_first (tokens_at m.queues (in_of q 0)) ≡ true) × (has_first (tokens_at m.queues (in_of q 2)) ≡ true)
    new = comes_in _ _ _ none both.1

    pub takes_new : CanTake m (in_of q 0)
    takes_new = can_take h (in_of q 0) (has_in h kind 0 (omega arith)) new.0

    pub takes_credit : CanTake m (in_of q 2)
    takes_credit = can_take h (in_of q 2) (has_in h kind 2 (omega arith)) new.1

    -- the credits come on another channel
    pub apart : in_of q 2 ≢ in_of q 0
    apart =
        let there = reads_chan h (in_of q 0) (has_in h kind 0 (omega arith)) in
        λ e. first_apart (λ (x : Proc). x.ins) m.net.procs (in_of q 0) p q (in_of q 1 ∷ (in_of q 2 ∷ [])) stands (fits_head h kind).ins (h.sound.typed.channels (in_of q 0) there).read (in_of q 2) (inr (inl refl)) (sym e)

    pub few_tags : length (first_or credit (tokens_at m.queues (in_of q 0))).tags + 1 < 12
    few_tags =
        let token = (first_fits h (in_of q 0) new.0).tags in
        let gives = (fits_head h kind).gives.tags in
        let most = h.sound.typed.few_tags (out_of q 0) in
        omega (arith, token, gives, most)

    abbrev pub new_steps : List Step
    new_steps =
        Take (in_of q 0) ∷ (Take (in_of q 2)
        ∷ (Put (out_of q 0) (admitted (own_at m.owns p).number (first_or credit (tokens_at m.queues (in_of q 0)))) ∷ (Keep (counted (own_at m.owns p)) ∷ [])))

    row_new : (leaf : Leaf) (es : List Outcome) → row_fire Head m.tree leaf m.net (state_of m es) p (own_at m.owns p) q ≡ let_in (state_of m es) p (own_at m.owns p) q
    unfolding row_fire row.fire state_of
    row_new leaf es = cond-false (has_first (tokens_at m.queues (in_of q 1))) _ _ none

    sent_new : (es : List Outcome) → state_after p (state_of m es) new_steps ≡ let_in (state_of m es) p (own_at m.owns p) q
    unfolding let_in pop push set_own state_of
    sent_new es = refl

    pub fired_new : (leaf : Leaf) (n : Seen) → n ≡ seen_after p m new_steps → (touched : List ℕ) → touched ≡ in_of q 0 ∷ (in_of q 2 ∷ (out_of q 0 ∷ [])) → Done leaf m n p touched None
    fired_new leaf n is touched named =
        done_as h new_steps (has_in h kind 0 (omega arith), ((λ e. apart (sym e), tt), (has_in h kind 2 (omega arith), (tt, (first_in q.outs (fits_head h kind).outs, (tt, tt)))))) (takes_new.there, (takes_credit.there, (puts.there, ((own_there h, own_less h), tt)))) leaf Head kind (λ es. sent_new es ∙ sym (row_new leaf es)) n is touched named
