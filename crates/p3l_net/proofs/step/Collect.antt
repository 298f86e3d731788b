-- Collects that may fire, and the steps of their firing.
use Rattle.std.proofs.Common.{◌≡◌, ℕ, ◌+◌, ◌<◌, ◌≤◌, ◌&&◌, true, false, List, [], ◌∷◌, length, drop, Some, None, slice_get, get_or, cond, nat_eq, refl, sym, ap, ◌∙◌, subst, arith, suc, length-drop}
use Rattle.std.specs.Option.{is_some}
use Rattle.std.proofs.lemmas.Bool.{and_parts, cond-true, cond-false}
use Rattle.std.proofs.Math.Seq.{drop-cons}
use Rattle.p3l_base.specs.declared.outcome.Outcome.{Outcome}
use Rattle.p3l_firing.specs.declared.process.Proc.{Proc}
use Rattle.p3l_firing.specs.declared.process.ProcKind.TheVariants.{Collect}
use Rattle.p3l_firing.specs.declared.token.Token.{Token}
use Rattle.p3l_firing.specs.Lists.{has_first, first_or}
use Rattle.p3l_firing.specs.Token.{credit, untagged, newest_tag}
use Rattle.p3l_firing.specs.Nodes.{Leaf}
use Rattle.p3l_firing.specs.State.{State, own_at, counted, pop, push, set_own}
use Rattle.p3l_firing.specs.Process.{out_of}
use Rattle.p3l_firing.specs.Fire.{row_can, row_fire}
use Rattle.p3l_firing.specs.kinds.Collect.{front_is, due_in, taken_from, Fits}
use Rattle.p3l_firing.specs.kinds.Collect as row
use Rattle.p3l_firing.proofs.Places.{first_in}
use Rattle.p3l_firing.proofs.Reading.{same-everywhere}
use Rattle.p3l_firing.proofs.row.Collect.{due-same, due_among, due_full}
use Rattle.p3l_net.specs.Channel.{tokens_at}
use Rattle.p3l_net.specs.Machine.{Seen, Stands, state_of}
use Rattle.p3l_net.specs.Steps.{CanTake, CanPut, Done, MayFire, ready_at, room_at}
use Rattle.p3l_net.proofs.StepLaw.{Step, Step.Take, Step.Put, Step.Keep, seen_after, state_after, done_as}
use Rattle.p3l_net.proofs.Standing.{here, is_kind, fits_as, writes_there, own_there, own_less, ready_as, can_take, can_put, room-seen}

-- the first token is the expected one if its newest tag is that number
pub due_front : (n : ℕ) (tokens : List Token) → has_first tokens ≡ true → front_is n tokens ≡ nat_eq (newest_tag (first_or credit tokens)) n
unfolding front_is
due_front n [] h = cc
due_front n (x ∷ xs) h = refl

pub due_empty : (n : ℕ) (tokens : List Token) → has_first tokens ≡ false → false ≡ front_is n tokens
unfolding front_is
due_empty n [] h = refl
due_empty n (x ∷ xs) h = cc

-- in the state that a machine is in
pub by_tokens : (m : Seen) (n c : ℕ) → front_is n ((state_of m []).tokens c) ≡ front_is n (tokens_at m.queues c)
unfolding state_of
by_tokens m n c = refl

-- one channel more was looked at
module _ (s : State) (n : ℕ) (cs : List ℕ) (i : ℕ) where
  due_step : i < length cs → due_in s n (drop i cs) ≡ cond (front_is n (s.tokens (get_or cs i 0))) (Some (get_or cs i 0)) (due_in s n (drop (i + 1) cs))
  unfolding due_in
  due_step l =
      let up : suc i ≡ i + 1 = omega arith in
      ap (due_in s n) (drop-cons cs i 0 l)
      ∙ ap (λ z. cond (front_is n (s.tokens (get_or cs i 0))) (Some (get_or cs i 0)) (due_in s n (drop z cs))) up

  pub due_here : i < length cs → front_is n (s.tokens (get_or cs i 0)) ≡ true → due_in s n (drop i cs) ≡ Some (get_or cs i 0)
  due_here l e = due_step l ∙ cond-true _ _ _ e

  pub due_later : i < length cs → front_is n (s.tokens (get_or cs i 0)) ≡ false → due_in s n (drop i cs) ≡ due_in s n (drop (i + 1) cs)
  due_later l e = due_step l ∙ cond-false _ _ _ e

  pub due_end : length cs ≤ i → due_in s n (drop i cs) ≡ None
  unfolding due_in
  due_end l = ap (due_in s n) (none (drop i cs) (length-drop i cs ∙ omega arith))
    where
      none : (xs : List ℕ) → length xs ≡ 0 → xs ≡ []
      none [] h = refl
      none (x ∷ xs) h = absurd (omega (arith, h))

module _ {m : Seen} {p : ℕ} {q : Proc} (h : Stands m p q) (kind : q.kind ≡ Collect) where
  pub fits_collect : Fits m.tree h.sound.typed.widths q
  fits_collect = fits_as h Collect kind

  pub out_there : out_of q 0 < length m.queues
  out_there = writes_there h (out_of q 0) (first_in q.outs fits_collect.outs)

  pub is_ready : ready_at m p ≡ (is_some (due_in (state_of m []) (own_at m.owns p).number q.ins) && room_at m (out_of q 0))
  unfolding row_can row.can
  is_ready = ready_as h Collect kind ∙ ap (λ b. is_some (due_in (state_of m []) (own_at m.owns p).number q.ins) && b) (sym (room-seen m h.sound (out_of q 0)))

same_choice : (m : Seen) (es : List Outcome) (n : ℕ) (cs : List ℕ) → due_in (state_of m []) n cs ≡ due_in (state_of m es) n cs
unfolding state_of
same_choice m es n cs = due-same (state_of m []) (state_of m es) n cs (same-everywhere (state_of m []) (state_of m es) (λ c. refl) cs)

module _ {m : Seen} {p : ℕ} {q : Proc} (may : MayFire m p Collect) (stands : slice_get m.net.procs p ≡ Some q) where
  h : Stands m p q
  h = here may stands

  kind : q.kind ≡ Collect
  kind = is_kind may stands

  both : (is_some (due_in (state_of m []) (own_at m.owns p).number q.ins) ≡ true) × (room_at m (out_of q 0) ≡ true)
  both = and_parts _ _ (sym (is_ready h kind) ∙ may.ready)

  pub chooses : is_some (due_in (state_of m []) (own_at m.owns p).number q.ins) ≡ true
  chooses = both.0

  pub puts : CanPut m (out_of q 0)
  puts = can_put h (out_of q 0) (first_in q.outs (fits_collect h kind).outs) (sym (room-seen m h.sound (out_of q 0)) ∙ both.1)

  module _ (c : ℕ) (chosen : due_in (state_of m []) (own_at m.owns p).number q.ins ≡ Some c) where
    pub takes : CanTake m c
    unfolding state_of
    takes = can_take h c (due_among (state_of m []) (own_at m.owns p).number q.ins c chosen) (due_full (state_of m []) (own_at m.owns p).number q.ins c chosen)

    abbrev pub steps : List Step
    steps = Take c ∷ (Put (out_of q 0) (untagged (first_or credit (tokens_at m.queues c))) ∷ (Keep (counted (own_at m.owns p)) ∷ []))

    row_is : (leaf : Leaf) (es : List Outcome) → row_fire Collect m.tree leaf m.net (state_of m es) p (own_at m.owns p) q ≡ taken_from (Some c) (state_of m es) p (own_at m.owns p) q
    unfolding row_fire row.fire
    row_is leaf es = ap (λ x. taken_from x (state_of m es) p (own_at m.owns p) q) (sym (same_choice m es (own_at m.owns p).number q.ins) ∙ chosen)

    sent_is : (es : List Outcome) → state_after p (state_of m es) steps ≡ taken_from (Some c) (state_of m es) p (own_at m.owns p) q
    unfolding taken_from pop push set_own state_of
    sent_is es = refl

    pub fired : (leaf : Leaf) (n : Seen) → n ≡ seen_after p m steps → (touched : List ℕ) → touched ≡ c ∷ (out_of q 0 ∷ []) → Done leaf m n p touched None
    fired leaf n is touched named =
        done_as h steps (due_among (state_of m []) (own_at m.owns p).number q.ins c chosen, (tt, (first_in q.outs (fits_collect h kind).outs, (tt, tt)))) (takes.there, (puts.there, ((own_there h, own_less h), tt))) leaf Collect kind (λ es. sent_is es ∙ sym (row_is leaf es)) n is touched named

-- its local state is there
pub own_inside : {m : Seen} {p : ℕ} (may : MayFire m p Collect) → p < length m.owns
own_inside {p = p} may = subst (λ n. p < n) (sym may.sound.shaped.keeps) may.there
