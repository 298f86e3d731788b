-- Splits that may fire, and the steps of their firing.
use Rattle.std.proofs.Common.{◌≡◌, ℕ, suc, ◌+◌, ◌*◌, ◌^◌, ◌<◌, ◌≤◌, ◌&&◌, true, false, cond, nat_lt, List, [], ◌∷◌, length, Option, Some, None, slice_get, refl, sym, ap, ap₂, ◌∙◌, subst, arith, lt-ltb}
use Rattle.std.specs.Int.{IsPowerOfTwo}
use Rattle.std.proofs.lemmas.Bool.{cond-true, cond-false}
use Rattle.p3l_base.specs.declared.outcome.Outcome.{Outcome}
use Rattle.p3l_base.specs.declared.outcome.Outcome.TheVariants.{Value, Trapped}
use Rattle.p3l_skel.specs.declared.tree.Form.{Form}
use Rattle.p3l_skel.specs.declared.tree.Form.TheVariants.{Reduce}
use Rattle.p3l_skel.specs.Counts.{IsLawfulCount}
use Rattle.p3l_skel.specs.Tree.{node_at, HasLength}
use Rattle.p3l_skel.proofs.Depth.{lawful_at}
use Rattle.p3l_firing.specs.declared.process.Proc.{Proc}
use Rattle.p3l_firing.specs.declared.process.ProcKind.TheVariants.{Split}
use Rattle.p3l_firing.specs.declared.token.Token.{Token}
use Rattle.p3l_firing.specs.Lists.{has_first, first_or}
use Rattle.p3l_firing.specs.Token.{credit, over}
use Rattle.p3l_firing.specs.Nodes.{Leaf, elem_of, segment_of}
use Rattle.p3l_firing.specs.State.{LocalState, own_at, counted, fresh, holding, pop, push, set_own}
use Rattle.p3l_firing.specs.Process.{in_of, out_of}
use Rattle.p3l_firing.specs.Widths.{FitsToken}
use Rattle.p3l_firing.specs.Fire.{row_can, row_fire}
use Rattle.p3l_firing.specs.kinds.Split.{after_segment, segment_sent, Fits, Keeps}
use Rattle.p3l_firing.specs.kinds.Split as row
use Rattle.p3l_firing.proofs.Fitting.{all_first}
use Rattle.p3l_firing.proofs.LawfulForms.{reduce_part, some_factor}
use Rattle.p3l_firing.proofs.Places.{first_in, has-nth}
use Rattle.p3l_net.specs.Channel.{tokens_at}
use Rattle.p3l_net.specs.Forms.{IsReduce, IsInElements}
use Rattle.p3l_net.specs.Machine.{Seen, Stands, state_of}
use Rattle.p3l_net.specs.Steps.{CanTake, CanPut, Done, IfValue, MayFire, ready_at, room_at}
use Rattle.p3l_net.proofs.StepLaw.{Step, Step.Take, Step.Put, Step.Keep, seen_after, state_after, done_as}
use Rattle.p3l_net.proofs.Standing.{here, is_kind, fits_as, keeps_as, reads_there, writes_there, own_there, own_less, ready_as, can_take, can_put, room-seen}
use Rattle.p3l_net.proofs.step.Scatter.{small_after}

-- a number of segments is a power of two, and no more than 512
lawful_segments : (form : Form) {workers : Option ℕ} {len elem : ℕ} (n : ℕ) → form ≡ Reduce workers len elem → IsLawfulCount form n → IsPowerOfTwo n × (n ≤ 512)
lawful_segments form {workers = workers} {len = len} {elem = elem} n e count =
    let lawful : IsLawfulCount (Reduce workers len elem) n = subst (λ f. IsLawfulCount f n) e count in
    (lawful.1.0, lawful.1.2)

module _ {m : Seen} {p : ℕ} {q : Proc} (h : Stands m p q) (kind : q.kind ≡ Split) where
  pub fits_split : Fits m.tree h.sound.typed.widths q
  fits_split = fits_as h Split kind

  pub in_there : in_of q 0 < length m.queues
  in_there = reads_there h (in_of q 0) (first_in q.ins fits_split.ins)

  pub is_reduce : IsReduce (node_at m.tree q.node).form
  is_reduce = subst IsReduce (sym fits_split.form) tt

  pub power_of_two : IsPowerOfTwo (length q.outs)
  power_of_two = (lawful_segments (node_at m.tree q.node).form (length q.outs) fits_split.form fits_split.count).0

  pub few_outs : length q.outs ≤ 512
  few_outs = (lawful_segments (node_at m.tree q.node).form (length q.outs) fits_split.form fits_split.count).1

  pub elem_is : elem_of (node_at m.tree q.node).form ≡ fits_split.elem
  elem_is = ap elem_of fits_split.form

  pub some_elem : 0 < elem_of (node_at m.tree q.node).form
  some_elem =
      let fits = fits_split in
      let reduce = reduce_part m.tree h.sound.typed.lawful q.node fits.node fits.form in
      let node = lawful_at m.tree h.sound.typed.lawful q.node fits.node in
      subst (λ n. 0 < n) (sym elem_is) (some_factor fits.len fits.elem (node_at m.tree q.node).ins node.ins.0 reduce.elements)

  module _ (holds : has_first (own_at m.owns p).held ≡ true) where
    -- the segment that it sends next is there
    pub segment_there : (own_at m.owns p).number < length q.outs
    segment_there = (keeps_as h Split kind).number holds

    pub line_there : out_of q (own_at m.owns p).number < length m.queues
    line_there = writes_there h (out_of q (own_at m.owns p).number) (has-nth q.outs (own_at m.owns p).number segment_there)

    -- the token that it holds has whole elements
    pub in_elements : IfValue (first_or credit (own_at m.owns p).held).body (λ words. IsInElements (elem_of (node_at m.tree q.node).form) (length words))
    in_elements =
        let fits = fits_split in
        let token = all_first (FitsToken h.sound.typed.widths (in_of q 0)) credit (own_at m.owns p).held holds (keeps_as h Split kind).held in
        let reduce = reduce_part m.tree h.sound.typed.lawful q.node fits.node fits.form in
        by_value (first_or credit (own_at m.owns p).held).body token.words (fits.takes ∙ reduce.elements ∙ ap (λ n. fits.len * n) (sym elem_is))
      where
        by_value : (body : Outcome) → HasLength (h.sound.typed.widths.words (in_of q 0)) body → h.sound.typed.widths.words (in_of q 0) ≡ fits_split.len * elem_of (node_at m.tree q.node).form → IfValue body (λ words. IsInElements (elem_of (node_at m.tree q.node).form) (length words))
        by_value (Value words) long whole = (fits_split.len, long ∙ whole)
        by_value (Trapped trap) long whole = tt

  held_ready : (holds : has_first (own_at m.owns p).held ≡ true) → row_can Split m.tree m.net (state_of m []) (own_at m.owns p) q ≡ room_at m (out_of q (own_at m.owns p).number)
  unfolding row_can row.can state_of
  held_ready holds =
      cond-true (has_first (own_at m.owns p).held) _ _ holds
      ∙ ap₂ (λ a b. a && b) (lt-ltb _ _ (segment_there holds)) (sym (room-seen m h.sound (out_of q (own_at m.owns p).number)))

  free_ready : (none : has_first (own_at m.owns p).held ≡ false) → row_can Split m.tree m.net (state_of m []) (own_at m.owns p) q ≡ has_first (tokens_at m.queues (in_of q 0))
  unfolding row_can row.can state_of
  free_ready none = cond-false (has_first (own_at m.owns p).held) _ _ none

  -- it waits for room while it holds a token, and otherwise for a token; a segment is there as long as it holds one
  pub is_ready_held : has_first (own_at m.owns p).held ≡ true → ready_at m p ≡ room_at m (out_of q (own_at m.owns p).number)
  is_ready_held holds = ready_as h Split kind ∙ held_ready holds

  pub is_ready_free : has_first (own_at m.owns p).held ≡ false → ready_at m p ≡ has_first (tokens_at m.queues (in_of q 0))
  is_ready_free none = ready_as h Split kind ∙ free_ready none

module _ {m : Seen} {p : ℕ} {q : Proc} (may : MayFire m p Split) (stands : slice_get m.net.procs p ≡ Some q) where
  h : Stands m p q
  h = here may stands

  kind : q.kind ≡ Split
  kind = is_kind may stands

  module _ (holds : has_first (own_at m.owns p).held ≡ true) where
    pub puts : CanPut m (out_of q (own_at m.owns p).number)
    puts =
        can_put h (out_of q (own_at m.owns p).number) (has-nth q.outs (own_at m.owns p).number (segment_there h kind holds))
        (sym (room-seen m h.sound (out_of q (own_at m.owns p).number)) ∙ sym (is_ready_held h kind holds) ∙ may.ready)

    -- the segment that is sent, and what is kept after it
    abbrev pub sent : Token
    sent = over (segment_of m.tree q.node (length q.outs) (own_at m.owns p).number) (first_or credit (own_at m.owns p).held)

    abbrev pub kept : LocalState
    kept = cond (nat_lt (suc (own_at m.owns p).number) (length q.outs)) (counted (own_at m.owns p)) fresh

    abbrev pub sent_steps : List Step
    sent_steps = Put (out_of q (own_at m.owns p).number) sent ∷ (Keep kept ∷ [])

    row_sent : (leaf : Leaf) (es : List Outcome) → row_fire Split m.tree leaf m.net (state_of m es) p (own_at m.owns p) q ≡ segment_sent m.tree (state_of m es) p (own_at m.owns p) q
    unfolding row_fire row.fire state_of
    row_sent leaf es = cond-true (has_first (own_at m.owns p).held) _ _ holds

    sent_is : (es : List Outcome) → state_after p (state_of m es) sent_steps ≡ segment_sent m.tree (state_of m es) p (own_at m.owns p) q
    unfolding segment_sent after_segment push set_own state_of
    sent_is es = refl

    pub fired_sent : (leaf : Leaf) (n : Seen) → n ≡ seen_after p m sent_steps → (touched : List ℕ) → touched ≡ out_of q (own_at m.owns p).number ∷ [] → Done leaf m n p touched None
    fired_sent leaf n is touched named =
        done_as h sent_steps (has-nth q.outs (own_at m.owns p).number (segment_there h kind holds), (tt, tt)) (puts.there, ((own_there h, small_after _ (own_at m.owns p) (m.fired + 1 + 2 ^ 63) (own_less h)), tt)) leaf Split kind (λ es. sent_is es ∙ sym (row_sent leaf es)) n is touched named

  module _ (none : has_first (own_at m.owns p).held ≡ false) where
    pub takes : CanTake m (in_of q 0)
    takes = can_take h (in_of q 0) (first_in q.ins (fits_split h kind).ins) (sym (is_ready_free h kind none) ∙ may.ready)

    abbrev pub taken_steps : List Step
    taken_steps = Take (in_of q 0) ∷ (Keep (holding (first_or credit (tokens_at m.queues (in_of q 0)))) ∷ [])

    row_taken : (leaf : Leaf) (es : List Outcome) → row_fire Split m.tree leaf m.net (state_of m es) p (own_at m.owns p) q ≡ state_after p (state_of m es) taken_steps
    unfolding row_fire row.fire pop set_own state_of
    row_taken leaf es = cond-false (has_first (own_at m.owns p).held) _ _ none

    pub fired_taken : (leaf : Leaf) (n : Seen) → n ≡ seen_after p m taken_steps → (touched : List ℕ) → touched ≡ in_of q 0 ∷ [] → Done leaf m n p touched None
    fired_taken leaf n is touched named =
        done_as h taken_steps (first_in q.ins (fits_split h kind).ins, (tt, tt)) (takes.there, ((own_there h, omega arith), tt)) leaf Split kind (λ es. sym (row_taken leaf es)) n is touched named
