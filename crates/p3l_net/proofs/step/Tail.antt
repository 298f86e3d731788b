-- Tails that may fire, and the steps of their firing.
use Rattle.std.proofs.Common.{◌≡◌, ◌≢◌, ℕ, ◌+◌, ◌^◌, ◌<◌, ◌&&◌, ◌||◌, cond, not, Bool, true, false, List, [], ◌∷◌, length, Some, None, slice_get, slice_index, refl, sym, ap, ap₂, ◌∙◌, subst, inl, inr, arith}
use Rattle.std.proofs.lemmas.Bool.{ltb-true, and_parts, cond-true, cond-false}
use Rattle.p3l_base.specs.declared.outcome.Outcome.{Outcome}
use Rattle.p3l_base.specs.declared.outcome.Outcome.TheVariants.{Value, Trapped}
use Rattle.p3l_skel.specs.Tree.{node_at, part_at, HasFittingLength, HasLength, IsUnit}
use Rattle.p3l_skel.specs.Item.{is_done}
use Rattle.p3l_skel.specs.Lawful.{IsLawfulLoop}
use Rattle.p3l_skel.proofs.Depth.{lawful_at}
use Rattle.p3l_firing.specs.declared.process.Proc.{Proc}
use Rattle.p3l_firing.specs.declared.process.ProcKind.TheVariants.{Tail}
use Rattle.p3l_firing.specs.declared.token.Token.{Token}
use Rattle.p3l_firing.specs.Lists.{has_first, first_or}
use Rattle.p3l_firing.specs.Token.{credit, untagged, once_more, newest_tag}
use Rattle.p3l_firing.specs.Nodes.{Leaf, most_turns, test_of, turns_of, spent_of}
use Rattle.p3l_firing.specs.State.{has_room, own_at, gathering, pop, push, set_own}
use Rattle.p3l_firing.specs.Process.{Has, in_of, out_of}
use Rattle.p3l_firing.specs.Fire.{row_can, row_fire, row_wants_memory}
use Rattle.p3l_firing.specs.kinds.Tail.{Turn, Turn.Held, Turn.Again, by_test, turn_of, has_number, pick_number, can_release, after_release, release, take_turn, next_turn, Fits}
use Rattle.p3l_firing.specs.kinds.Tail as row
use Rattle.p3l_firing.proofs.Places.{first_in, has-nth, first_apart}
use Rattle.p3l_firing.proofs.LawfulForms.{loop_parts, fits_ins}
use Rattle.p3l_firing.proofs.row.Head.{three_long}
use Rattle.p3l_net.specs.Channel.{tokens_at}
use Rattle.p3l_net.specs.Machine.{Seen, Stands, may_want_memory, state_of}
use Rattle.p3l_net.specs.Steps.{CanTake, CanPut, Done, IfValue, MayFire, ready_at, room_at}
use Rattle.p3l_net.specs.declared.kinds.tail.Turn.{Turn as Found}
use Rattle.p3l_net.specs.Turns.{row_turn}
use Rattle.p3l_net.proofs.StepLaw.{Step, Step.Take, Step.Put, Step.Keep, seen_after, state_after, done_as}
use Rattle.p3l_net.proofs.Standing.{here, is_kind, fits_as, reads_there, writes_there, writes_chan, own_there, own_less, ready_as, can_take, can_put, first_fits, room-seen, wants_as}

or_right : (a b : Bool) → a ≡ false → (a || b) ≡ true → b ≡ true
or_right true b e h = cc
or_right false b e h = h

-- only a token that has turns left goes round once more
again_more : (test : Outcome → Outcome) (spent : Outcome) (more : Bool) (body : Outcome) → turn_of test spent more body ≡ Again → more ≡ true
unfolding turn_of by_test
again_more test spent true body e = refl
again_more test spent false (Trapped trap) e = cc
again_more test spent false (Value words) e = spent_held (test (Value words)) e
  where
    none_again : (b : Bool) (x y : Outcome) → cond b (Held x) (Held y) ≡ Again → false ≡ true
    none_again true x y f = cc
    none_again false x y f = cc

    spent_held : (answer : Outcome) → by_test answer (Value words) spent false ≡ Again → false ≡ true
    spent_held (Trapped trap) f = cc
    spent_held (Value answer) f = none_again (is_done answer) (Value words) spent f

module _ {m : Seen} {p : ℕ} {q : Proc} (h : Stands m p q) (kind : q.kind ≡ Tail) where
  pub fits_tail : Fits m.tree h.sound.typed.widths q
  fits_tail = fits_as h Tail kind

  pub out_long : length q.outs ≡ 3
  out_long = three_long q.outs _ _ _ fits_tail.outs

  pub has_out : (k : ℕ) → k < 3 → Has q.outs (slice_index q.outs k)
  has_out k less = let long = out_long in has-nth q.outs k (omega (arith, long, less))

  pub in_there : in_of q 0 < length m.queues
  in_there = reads_there h (in_of q 0) (first_in q.ins fits_tail.ins)

  pub out_there : (k : ℕ) → k < 3 → out_of q k < length m.queues
  out_there k less = writes_there h (out_of q k) (has_out k less)

  pub lets_out : can_release m.net (state_of m []) (own_at m.owns p) q ≡ (has_number (own_at m.owns p).number (own_at m.owns p).held && (room_at m (out_of q 0) && room_at m (out_of q 2)))
  unfolding can_release
  lets_out =
      ap₂ (λ a b. has_number (own_at m.owns p).number (own_at m.owns p).held && (a && b)) (sym (room-seen m h.sound (out_of q 0))) (sym (room-seen m h.sound (out_of q 2)))

  pub is_ready : ready_at m p ≡ (can_release m.net (state_of m []) (own_at m.owns p) q || (has_first (tokens_at m.queues (in_of q 0)) && room_at m (out_of q 1)))
  unfolding row_can row.can state_of
  is_ready =
      ready_as h Tail kind
      ∙ ap (λ b. can_release m.net (state_of m []) (own_at m.owns p) q || (has_first (tokens_at m.queues (in_of q 0)) && b)) (sym (room-seen m h.sound (out_of q 1)))

  loop_is : IsLawfulLoop m.tree fits_tail.turns fits_tail.tokens (node_at m.tree q.node).ins (node_at m.tree q.node).outs (part_at m.tree q.node 0) (part_at m.tree q.node 1)
  loop_is = loop_parts m.tree h.sound.typed.lawful q.node fits_tail.node fits_tail.form

  pub is_unit : IsUnit m.tree (part_at m.tree q.node 1)
  is_unit = record { in_tree = loop_is.parts.tested.in_tree; sequential = loop_is.parts.sequential }

  -- the condition takes what comes out of the body
  tested : (n : ℕ) → n ≡ (node_at m.tree q.node).outs → HasFittingLength m.tree (part_at m.tree q.node 1) n
  tested n long =
      let part : ℕ = part_at m.tree q.node 1 in
      let own = lawful_at m.tree h.sound.typed.lawful part loop_is.parts.tested.in_tree in
      fits_ins m.tree (node_at m.tree part).form (node_at m.tree part).ins (node_at m.tree part).outs n (node_at m.tree part).parts own.ins own.form (long ∙ sym loop_is.parts.same_words ∙ sym loop_is.parts.tested.takes)

  pub fitting : has_first (tokens_at m.queues (in_of q 0)) ≡ true → IfValue (first_or credit (tokens_at m.queues (in_of q 0))).body (λ words. HasFittingLength m.tree (part_at m.tree q.node 1) (length words))
  fitting full =
      by_value (first_or credit (tokens_at m.queues (in_of q 0))).body
      (subst (λ n. HasLength n (first_or credit (tokens_at m.queues (in_of q 0))).body) fits_tail.takes.words (first_fits h (in_of q 0) full).words)
    where
      by_value : (body : Outcome) → HasLength (node_at m.tree q.node).outs body → IfValue body (λ words. HasFittingLength m.tree (part_at m.tree q.node 1) (length words))
      by_value (Value words) long = tested (length words) long
      by_value (Trapped trap) long = tt

-- it lets a token out whichever outcomes were emitted
leaves_any : (m : Seen) (es : List Outcome) (p : ℕ) (q : Proc) → can_release m.net (state_of m es) (own_at m.owns p) q ≡ can_release m.net (state_of m []) (own_at m.owns p) q
unfolding can_release has_room state_of
leaves_any m es p q = refl

module _ {m : Seen} {p : ℕ} {q : Proc} (may : MayFire m p Tail) (stands : slice_get m.net.procs p ≡ Some q) where
  h : Stands m p q
  h = here may stands

  kind : q.kind ≡ Tail
  kind = is_kind may stands

  module _ (leaves : can_release m.net (state_of m []) (own_at m.owns p) q ≡ true) where
    has_and_rooms : (has_number (own_at m.owns p).number (own_at m.owns p).held ≡ true) × ((room_at m (out_of q 0) && room_at m (out_of q 2)) ≡ true)
    has_and_rooms = and_parts _ _ (sym (lets_out h kind) ∙ leaves)

    rooms : (room_at m (out_of q 0) ≡ true) × (room_at m (out_of q 2) ≡ true)
    rooms = and_parts _ _ has_and_rooms.1

    pub due : has_number (own_at m.owns p).number (own_at m.owns p).held ≡ true
    due = has_and_rooms.0

    pub puts_out : CanPut m (out_of q 0)
    puts_out = can_put h (out_of q 0) (has_out h kind 0 (omega arith)) (sym (room-seen m h.sound (out_of q 0)) ∙ rooms.0)

    pub puts_credit : CanPut m (out_of q 2)
    puts_credit = can_put h (out_of q 2) (has_out h kind 2 (omega arith)) (sym (room-seen m h.sound (out_of q 2)) ∙ rooms.1)

    -- the credits go another way
    pub apart : out_of q 2 ≢ out_of q 0
    apart =
        let there = writes_chan h (out_of q 0) (has_out h kind 0 (omega arith)) in
        λ e. first_apart (λ (x : Proc). x.outs) m.net.procs (out_of q 0) p q (out_of q 1 ∷ (out_of q 2 ∷ [])) stands (fits_tail h kind).outs (h.sound.typed.channels (out_of q 0) there).written (out_of q 2) (inr (inl refl)) (sym e)

    abbrev pub let_out : Token
    let_out = untagged (untagged (pick_number (own_at m.owns p).number (own_at m.owns p).held))

    abbrev pub out_steps : List Step
    out_steps = Keep (after_release (own_at m.owns p)) ∷ (Put (out_of q 0) let_out ∷ (Put (out_of q 2) credit ∷ []))

    row_out : (leaf : Leaf) (es : List Outcome) → row_fire Tail m.tree leaf m.net (state_of m es) p (own_at m.owns p) q ≡ release (state_of m es) p (own_at m.owns p) q
    unfolding row_fire row.fire
    row_out leaf es = cond-true (can_release m.net (state_of m es) (own_at m.owns p) q) _ _ (leaves_any m es p q ∙ leaves)

    sent_out : (es : List Outcome) → state_after p (state_of m es) out_steps ≡ release (state_of m es) p (own_at m.owns p) q
    unfolding release push set_own state_of
    sent_out es = refl

    counted_few : (after_release (own_at m.owns p)).number < m.fired + 1 + 2 ^ 63
    unfolding after_release
    counted_few = own_less h

    pub fired_out : (leaf : Leaf) (n : Seen) → n ≡ seen_after p m out_steps → (touched : List ℕ) → touched ≡ out_of q 0 ∷ (out_of q 2 ∷ []) → Done leaf m n p touched None
    fired_out leaf n is touched named =
        done_as h out_steps (has_out h kind 0 (omega arith), ((λ e. apart (sym e), tt), (has_out h kind 2 (omega arith), (tt, tt)))) ((own_there h, counted_few), (puts_out.there, (puts_credit.there, tt))) leaf Tail kind (λ es. sent_out es ∙ sym (row_out leaf es)) n is touched named

  module _ (stays : can_release m.net (state_of m []) (own_at m.owns p) q ≡ false) where
    both : (has_first (tokens_at m.queues (in_of q 0)) ≡ true) × (room_at m (out_of q 1) ≡ true)
    both = and_parts _ _ (or_right _ _ stays (sym (is_ready h kind) ∙ may.ready))

    pub comes : has_first (tokens_at m.queues (in_of q 0)) ≡ true
    comes = both.0

    pub takes : CanTake m (in_of q 0)
    takes = can_take h (in_of q 0) (first_in q.ins (fits_tail h kind).ins) comes

    pub puts_back : CanPut m (out_of q 1)
    puts_back = can_put h (out_of q 1) (has_out h kind 1 (omega arith)) (sym (room-seen m h.sound (out_of q 1)) ∙ both.1)

    pub wants : may_want_memory m p ≡ true
    unfolding row_wants_memory
    wants = wants_as m p stands kind (ap not stays)

    abbrev first : Token
    first = first_or credit (tokens_at m.queues (in_of q 0))

    row_turned : (leaf : Leaf) (turn : Turn) → next_turn m.tree leaf (state_of m []) q ≡ turn → (es : List Outcome) → row_fire Tail m.tree leaf m.net (state_of m es) p (own_at m.owns p) q ≡ take_turn turn (state_of m es) p (own_at m.owns p) q first
    unfolding row_fire row.fire state_of
    row_turned leaf turn e es =
        cond-false (can_release m.net (state_of m es) (own_at m.owns p) q) _ _ (leaves_any m es p q ∙ stays)
        ∙ ap (λ t. take_turn t (state_of m es) p (own_at m.owns p) q first) e

    -- its code finds the turn that its row says
    pub found : (leaf : Leaf) (t u : Found) → row_turn t first.body ≡ next_turn m.tree leaf (state_of m []) q → t ≡ u → next_turn m.tree leaf (state_of m []) q ≡ row_turn u first.body
    found leaf t u e is = sym e ∙ ap (λ x. row_turn x first.body) is

    abbrev pub held_steps : Outcome → List Step
    held_steps outcome = Take (in_of q 0) ∷ (Keep (gathering (own_at m.owns p) (record first { body = outcome })) ∷ [])

    sent_held : (outcome : Outcome) (es : List Outcome) → state_after p (state_of m es) (held_steps outcome) ≡ take_turn (Held outcome) (state_of m es) p (own_at m.owns p) q first
    unfolding take_turn pop set_own state_of
    sent_held outcome es = refl

    few : (own_at m.owns p).number < m.fired + 1 + 2 ^ 63
    few = let less = own_less h in omega (arith, less)

    pub fired_held : (leaf : Leaf) (outcome : Outcome) → next_turn m.tree leaf (state_of m []) q ≡ Held outcome → (n : Seen) → n ≡ seen_after p m (held_steps outcome) → (touched : List ℕ) → touched ≡ in_of q 0 ∷ [] → Done leaf m n p touched None
    fired_held leaf outcome turn n is touched named =
        done_as h (held_steps outcome) (first_in q.ins (fits_tail h kind).ins, (tt, tt)) (takes.there, ((own_there h, few), tt)) leaf Tail kind (λ es. sent_held outcome es ∙ sym (row_turned leaf (Held outcome) turn es)) n is touched named

    -- its turn can be counted
    pub few_turns : (leaf : Leaf) → next_turn m.tree leaf (state_of m []) q ≡ Again → newest_tag first < 2 ^ 63
    unfolding turns_of state_of
    few_turns leaf turn =
        let more : newest_tag first < turns_of m.tree q.node = ltb-true _ _ (again_more (test_of m.tree leaf q.node) (spent_of m.tree q.node) _ first.body turn) in
        let turns : turns_of m.tree q.node ≡ (fits_tail h kind).turns = ap most_turns (fits_tail h kind).form in
        let most = (loop_is h kind).limits.few_turns in
        omega (arith, more, turns, most)

    abbrev pub again_steps : List Step
    again_steps = Take (in_of q 0) ∷ (Put (out_of q 1) (once_more first) ∷ [])

    sent_again : (es : List Outcome) → state_after p (state_of m es) again_steps ≡ take_turn Again (state_of m es) p (own_at m.owns p) q first
    unfolding take_turn pop push state_of
    sent_again es = refl

    pub fired_again : (leaf : Leaf) → next_turn m.tree leaf (state_of m []) q ≡ Again → (n : Seen) → n ≡ seen_after p m again_steps → (touched : List ℕ) → touched ≡ in_of q 0 ∷ (out_of q 1 ∷ []) → Done leaf m n p touched None
    fired_again leaf turn n is touched named =
        done_as h again_steps (first_in q.ins (fits_tail h kind).ins, (tt, (has_out h kind 1 (omega arith), (tt, tt)))) (takes.there, (puts_back.there, tt)) leaf Tail kind (λ es. sent_again es ∙ sym (row_turned leaf Again turn es)) n is touched named
