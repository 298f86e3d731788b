-- THE LAW OF THE LOOP (`loop_lawful`): any number of tokens but 0, round any lawful body. A later token may be
-- done first, and still they leave in the order in which they came, each with the outcome of its own turns.
-- Credits and tokens inside are always as many as the loop has, so the feedback channel has room, and all drain.
use Rattle.std.proofs.Common.{◌≡◌, ℕ, zero, suc, ◌+◌, ◌*◌, ◌-◌, ◌≤◌, ◌<◌, ◌≢◌, ◌⊎◌, inl, inr, ◌&&◌, ◌||◌, nat_lt, Bool, true, false, List, [], ◌∷◌, ◌++◌, map, length, get_or, replicate, slice_get, Some, refl, sym, ap, ap₂, ◌∙◌, subst, arith, le_refl, append_assoc, append-nil, length-append, lt-ltb}
use Rattle.std.proofs.lemmas.Bool.{cases_Bool, cases_lt, cases_eq, and_parts, and_from}
use Rattle.std.proofs.lemmas.List.{map-append, length-map, length-replicate}
use Rattle.p3l_base.specs.declared.outcome.Outcome.{Outcome}
use Rattle.p3l_firing.specs.Fire.{row_can, can_fire}
use Rattle.p3l_firing.specs.Ways.{eyes_of, SendsRound, LetsIn, LetsOut, TakesTurn, row_ways, MayFire}
use Rattle.p3l_firing.specs.Lists.{first_or, rest_of, has_first}
use Rattle.p3l_firing.specs.State.{LocalState, State, pop, push, set_own, counted, has_room, chan_at, no_chan, at_first, fresh}
use Rattle.p3l_firing.specs.Token.{over, has_trap, credit, first_tag, newest_tag, untagged, admitted, once_more}
use Rattle.p3l_firing.specs.declared.net.Net.{Net}
use Rattle.p3l_firing.specs.declared.token.Token.{Token}
use Rattle.p3l_firing.specs.kinds.Head.{sent_round, let_in}
use Rattle.p3l_firing.specs.kinds.Tail.{Turn, Turn.Held, Turn.Again, turn_of, has_number, pick_number, drop_number, can_release, take_turn, release}
use Rattle.p3l_loop.specs.Loop.{rounds, settled, View, bag, in_turns, to_come, well_kept, ring_due, loop_firings, head_proc, tail_proc, laps_of, view_of, loop_over, loop_shape}
use Rattle.p3l_loop.specs.laws.HeldLaw.{found, not_found}
use Rattle.p3l_loop.specs.laws.ViewLaw.{view_line, Kept, kept_to, kept_from, Goes, let_in_view, let_in_goes, hold_view, hold_goes, again_view, again_goes, release_view, release_goes, ring_append, after_again, next_turn, turns_rest, ring_bound, all_bound}
use Rattle.p3l_template.specs.Bag.{read, look}
use Rattle.p3l_template.specs.Part.{Part, IsLawfulPart, IsSized, in_channels, in_hands, inside, line, IsInside, IsSameInside, IsAlike, Moves, IsFresh, Begins, IsDrained, due, no_part}
use Rattle.p3l_template.specs.Placed.{IsLawfulShape, LiesAt, IsGoodSlot, IsPlaced, AreLaid, HaveRoom, IsSlot, AreStanding, AreChained, proc_end, chan_end}
use Rattle.p3l_template.specs.Shape.{empty_chan, Role, Base, no_slot}
use Rattle.p3l_template.specs.Units.{Units}
use Rattle.p3l_template.specs.laws.BagLaw.{without_count, read_length}
use Rattle.p3l_template.specs.laws.Lists.{none_left}
use Rattle.p3l_template.specs.laws.Inside.{channels_from, hands_from}
use Rattle.p3l_template.specs.laws.Rows.{at-other, front, way_at, cannot_at, emptied, room_when_empty, and_left_true, and_right_true}
use Rattle.p3l_template.specs.laws.Touch.{pop_same, pop_other, push_same, push_other, set_tokens, own_same, own_other, pop_own, push_own}
use Rattle.p3l_firing.specs.kinds.Head as head
use Rattle.p3l_firing.specs.kinds.Tail as tail
use Rattle.p3l_firing.specs.Nodes.{test_of, spent_of, turns_of}

-- a step of Head or Tail touches nothing but the loop's ports and its own channels and states
pub record Around (base : Base) (s t : State) : Type 0 where
  pub tokens : (c : ℕ) → c ≢ base.input → c ≢ base.output → (base.chan ≤ c → base.chan + 4 ≤ c) →
      t.tokens c ≡ s.tokens c
  pub own : (p : ℕ) → p ≢ base.proc → p ≢ base.proc + 1 → t.own p ≡ s.own p
  pub unsent : t.unsent ≡ s.unsent
  pub sent : t.sent ≡ s.sent
  pub emitted : t.emitted ≡ s.emitted

-- the states after the five rows
unfoldable round_state : Base → State → State
round_state base s = push (pop s (base.chan + 2)) base.chan (first_or credit (s.tokens (base.chan + 2)))

unfoldable let_in_state : Base → State → State
let_in_state base s =
    set_own
    (push (pop (pop s base.input) (base.chan + 3)) base.chan
    (admitted (s.own base.proc).number (first_or credit (s.tokens base.input))))
    base.proc (counted (s.own base.proc))

unfoldable hold_state : Base → Outcome → State → State
hold_state base w s =
    set_own (pop s (base.chan + 1)) (base.proc + 1)
    (record {
      number = (s.own (base.proc + 1)).number;
      held = (s.own (base.proc + 1)).held ++ record (first_or credit (s.tokens (base.chan + 1))) { body = w } ∷ [];
    })

unfoldable again_state : Base → State → State
again_state base s = push (pop s (base.chan + 1)) (base.chan + 2) (once_more (first_or credit (s.tokens (base.chan + 1))))

unfoldable release_state : Base → State → State
release_state base s =
    set_own
    (push (push s base.output
    (untagged (untagged (pick_number (s.own (base.proc + 1)).number (s.own (base.proc + 1)).held)))) (base.chan + 3) credit)
    (base.proc + 1)
    (record {
      number = (s.own (base.proc + 1)).number + 1;
      held = drop_number (s.own (base.proc + 1)).number (s.own (base.proc + 1)).held;
    })

around_refl : (base : Base) (s : State) → Around base s s
around_refl base s =
    record { tokens = λ c i o f. refl; own = λ p h k. refl; unsent = refl; sent = refl; emitted = refl }

-- channel a is one of the loop's
unfoldable Mine : Base → ℕ → Type 0
Mine base a = (c : ℕ) → c ≢ base.input → c ≢ base.output → (base.chan ≤ c → base.chan + 4 ≤ c) → c ≢ a

mine : (base : Base) (k : ℕ) → k < 4 → Mine base (base.chan + k)
unfolding Mine
mine base k l = λ c i o f e. omega (arith, f, e, l)

around_pop : (base : Base) (s t : State) (a : ℕ) → Mine base a → Around base s t → Around base s (pop t a)
unfolding Mine pop
around_pop base s t a m x =
    record {
      tokens = λ c i o f. at-other t.tokens a (rest_of (t.tokens a)) c (m c i o f) ∙ x.tokens c i o f;
      own = x.own;
      unsent = x.unsent;
      sent = x.sent;
      emitted = x.emitted;
    }

around_push : (base : Base) (s t : State) (a : ℕ) (y : Token) → Mine base a → Around base s t →
    Around base s (push t a y)
unfolding Mine push
around_push base s t a y m x =
    record {
      tokens = λ c i o f. at-other t.tokens a (t.tokens a ++ y ∷ []) c (m c i o f) ∙ x.tokens c i o f;
      own = x.own;
      unsent = x.unsent;
      sent = x.sent;
      emitted = x.emitted;
    }

around_own : (base : Base) (s t : State) (p : ℕ) (o : LocalState) → (p ≡ base.proc) ⊎ (p ≡ base.proc + 1) → Around base s t →
    Around base s (set_own t p o)
unfolding set_own
around_own base s t p o m x =
    record {
      tokens = x.tokens;
      own = λ q h k. at-other t.own p o q (λ e. elim m [ inl d ↦ h (e ∙ d) | inr d ↦ k (e ∙ d) ]) ∙ x.own q h k;
      unsent = x.unsent;
      sent = x.sent;
      emitted = x.emitted;
    }

module _ (base : Base) (s : State) where
  mine_in : Mine base base.input
  unfolding Mine
  mine_in = λ c i o f. i

  mine_out : Mine base base.output
  unfolding Mine
  mine_out = λ c i o f. o

  mine_first : Mine base base.chan
  mine_first = subst (Mine base) (omega arith) (mine base 0 (omega arith))

  round_around : Around base s (round_state base s)
  unfolding round_state
  round_around =
      around_push base s (pop s (base.chan + 2)) base.chan _ mine_first
      (around_pop base s s (base.chan + 2) (mine base 2 (omega arith)) (around_refl base s))

  let_in_around : Around base s (let_in_state base s)
  unfolding let_in_state
  let_in_around =
      around_own base s _ base.proc _ (inl refl)
      (around_push base s (pop (pop s base.input) (base.chan + 3)) base.chan _ mine_first
      (around_pop base s (pop s base.input) (base.chan + 3) (mine base 3 (omega arith))
      (around_pop base s s base.input mine_in (around_refl base s))))

  hold_around : (w : Outcome) → Around base s (hold_state base w s)
  unfolding hold_state
  hold_around w =
      around_own base s _ (base.proc + 1) _ (inr refl)
      (around_pop base s s (base.chan + 1) (mine base 1 (omega arith)) (around_refl base s))

  again_around : Around base s (again_state base s)
  unfolding again_state
  again_around =
      around_push base s (pop s (base.chan + 1)) (base.chan + 2) _ (mine base 2 (omega arith))
      (around_pop base s s (base.chan + 1) (mine base 1 (omega arith)) (around_refl base s))

  release_around : Around base s (release_state base s)
  unfolding release_state
  release_around =
      around_own base s _ (base.proc + 1) _ (inr refl)
      (around_push base s _ (base.chan + 3) _ (mine base 3 (omega arith))
      (around_push base s s base.output _ mine_out (around_refl base s)))

-- the firings that are left, from the lengths and the numbers
unfoldable total : ℕ → ℕ → ℕ → ℕ → ℕ → ℕ → ℕ → ℕ → ℕ
total fir f a b w g c h = fir * a + ((f * b + w) + (g + ((f + 1) * c + h)))

round_falls : (fir f a b w g c h : ℕ) → total fir f a (b + 1) w g c h < total fir f a b w g (suc c) h
unfolding total
round_falls fir f a b w g c h = omega arith

let_in_falls : (u f a b w g i c h : ℕ) →
    total (1 + (u * (f + 2) + (f + 2))) f a (b + 1) w (g + ((u * (f + 2) + 2) + i)) c h
    < total (1 + (u * (f + 2) + (f + 2))) f (suc a) b w (g + i) c h
unfolding total
let_in_falls u f a b w g i c h = omega arith

hold_falls : (fir f a b w u g c h : ℕ) → total fir f a b w g c (h + 1) < total fir f a b w ((u * (f + 2) + 2) + g) c h
unfolding total
hold_falls fir f a b w u g c h = omega arith

again_falls : (fir f a b w u g c h : ℕ) →
    total fir f a b w (g + ((u * (f + 2) + 2) + 0)) (c + 1) h < total fir f a b w ((suc u * (f + 2) + 2) + g) c h
unfolding total
again_falls fir f a b w u g c h = omega arith

release_falls : (fir f a b w g c h : ℕ) → total fir f a b w g c h < total fir f a b w g c (suc h)
unfolding total
release_falls fir f a b w g c h = omega arith

less_by : {a b c d : ℕ} → a ≡ b → c ≡ d → b < d → a < c
less_by e f l = omega (arith, e, f, l)

body_falls : (fir f a x y g c h : ℕ) → x < y →
    fir * a + (x + (g + ((f + 1) * c + h))) < fir * a + (y + (g + ((f + 1) * c + h)))
body_falls fir f a x y g c h l = omega arith

module _ (net : Net) (units : Units) (roles : ℕ → Role) (node tokens : ℕ) (base : Base) (Q : Part)
    (gi : base.input < base.chan) (go : base.output < base.chan) (gn : base.input ≢ base.output)
    (stands : AreStanding net base.proc (head_proc node base ∷ (tail_proc node base ∷ [])))
    (fits : IsSlot net units roles (base.proc + 2) (base.chan + 4)
    (record { input = base.chan; output = base.chan + 1; part = 0 }) Q) where
  around_same : (s t : State) → Around base s t → IsSameInside Q s t
  around_same s t a = record {
    tokens = λ c f l.
        a.tokens c (λ e. omega (arith, e, f, gi, fits.chan)) (λ e. omega (arith, e, f, go, fits.chan))
        (λ _. omega (arith, f, fits.chan));
    own = λ p f l. a.own p (λ e. omega (arith, e, f, fits.proc)) (λ e. omega (arith, e, f, fits.proc));
  }

  around_alike : (s t : State) → Around base s t → IsAlike Q s t
  around_alike s t a = fits.lawful.reads s t (around_same s t a)

  around_moves : (s t : State) → Around base s t → Moves (loop_over units node tokens base Q) s t
  around_moves s t a = record {
    tokens = λ c i o f. a.tokens c i o (λ g. omega (arith, f, g, fits.chan, fits.lawful.chans));
    own = λ p f.
        a.own p (λ e. omega (arith, e, f, fits.proc, fits.lawful.procs))
        (λ e. omega (arith, e, f, fits.proc, fits.lawful.procs));
    unsent = a.unsent;
    sent = a.sent;
    emitted = a.emitted;
  }

  -- the ring, from its parts
  abbrev ring_at : State → List Token → List Token → List Token → List Token
  ring_at s d b f = (d ++ (Q.pending s ++ map (over Q.meaning) b)) ++ map (over Q.meaning) f

  ring_is : (s t : State) (d b f : List Token) → Q.pending t ≡ Q.pending s → t.tokens (base.chan + 1) ≡ d →
      t.tokens base.chan ≡ b → t.tokens (base.chan + 2) ≡ f →
      line Q t ++ map (over Q.meaning) (t.tokens (base.chan + 2)) ≡ ring_at s d b f
  unfolding line
  ring_is s t d b f p ed eb ef =
      λ i. (((ap t.tokens fits.output ∙ ed) i) ++ (p i ++ map (over Q.meaning) ((ap t.tokens fits.input ∙ eb) i)))
      ++ map (over Q.meaning) (ef i)

  view_is : (t : State) (n l c : ℕ) (held r i o : List Token) → (t.own base.proc).number ≡ n →
      (t.own (base.proc + 1)).number ≡ l → length (t.tokens (base.chan + 3)) ≡ c → (t.own (base.proc + 1)).held ≡ held →
      line Q t ++ map (over Q.meaning) (t.tokens (base.chan + 2)) ≡ r → t.tokens base.input ≡ i →
      t.tokens base.output ≡ o →
      view_of base Q t ≡ record { next = n; least = l; credits = c; held = held; ring = r; input = i; output = o }
  view_is t n l c held r i o e1 e2 e3 e4 e5 e6 e7 =
      λ j. record { next = e1 j; least = e2 j; credits = e3 j; held = e4 j; ring = e5 j; input = e6 j; output = e7 j }

  -- a step is right: nothing else is touched, the loop goes on, the work falls
  record Right (s t : State) : Type 0 where
    goes : Goes (laps_of units node Q) tokens (view_of base Q s) (view_of base Q t)
    work : due (loop_over units node tokens base Q) t < due (loop_over units node tokens base Q) s

  due_is : (s : State) (a b w g c h : ℕ) → length (s.tokens base.input) ≡ a → length (s.tokens base.chan) ≡ b →
      Q.owed s ≡ w →
      ring_due (turns_of units.tree node) Q.firings (line Q s ++ map (over Q.meaning) (s.tokens (base.chan + 2))) ≡ g →
      length (s.tokens (base.chan + 2)) ≡ c → length (s.own (base.proc + 1)).held ≡ h →
      due (loop_over units node tokens base Q) s ≡ total (loop_firings (turns_of units.tree node) Q.firings) Q.firings a b w g c h
  unfolding due total
  due_is s a b w g c h e1 e2 e3 e4 e5 e6 =
      λ i. loop_firings (turns_of units.tree node) Q.firings * e1 i
      + ((Q.firings * ((ap (λ z. length (s.tokens z)) fits.input ∙ e2) i) + e3 i)
      + (e4 i + ((Q.firings + 1) * e5 i + e6 i)))

  -- the loop's lists after a step, and their lengths
  round_ring : (d p b : List Token) (y : Token) (f : List Token) →
      (d ++ (p ++ map (over Q.meaning) (b ++ y ∷ []))) ++ map (over Q.meaning) f
      ≡ (d ++ (p ++ map (over Q.meaning) b)) ++ map (over Q.meaning) (y ∷ f)
  round_ring d p b y f = simp (map-append, append_assoc)

  let_in_ring : (d p b : List Token) (y : Token) (f : List Token) →
      (d ++ (p ++ map (over Q.meaning) (b ++ y ∷ []))) ++ map (over Q.meaning) f
      ≡ (d ++ (p ++ map (over Q.meaning) b)) ++ over Q.meaning y ∷ map (over Q.meaning) f
  let_in_ring d p b y f = simp (map-append, append_assoc)

  again_ring : (d p b f : List Token) (y : Token) →
      (d ++ (p ++ map (over Q.meaning) b)) ++ map (over Q.meaning) (f ++ y ∷ [])
      ≡ ((d ++ (p ++ map (over Q.meaning) b)) ++ map (over Q.meaning) f) ++ over Q.meaning y ∷ []
  again_ring d p b f y = simp (map-append, append_assoc)

  one_more : (ts : List Token) (x : Token) → length (ts ++ x ∷ []) ≡ length ts + 1
  one_more ts x = length-append ts (x ∷ [])

  module _ (s : State) (k : Kept (laps_of units node Q) tokens (view_of base Q s)) where
    ring_now : line Q s ++ map (over Q.meaning) (s.tokens (base.chan + 2)) ≡ ring_at s (s.tokens (base.chan + 1))
        (s.tokens base.chan) (s.tokens (base.chan + 2))
    ring_now =
        ring_is s s (s.tokens (base.chan + 1)) (s.tokens base.chan) (s.tokens (base.chan + 2)) refl refl refl refl

    due_now : (a b w g c h : ℕ) → length (s.tokens base.input) ≡ a → length (s.tokens base.chan) ≡ b → Q.owed s ≡ w →
        ring_due (turns_of units.tree node) Q.firings (line Q s ++ map (over Q.meaning) (s.tokens (base.chan + 2))) ≡ g →
        length (s.tokens (base.chan + 2)) ≡ c → length (s.own (base.proc + 1)).held ≡ h →
        due (loop_over units node tokens base Q) s
        ≡ total (loop_firings (turns_of units.tree node) Q.firings) Q.firings a b w g c h
    due_now = due_is s

    -- ROUND
    round_other : (c : ℕ) → c ≢ base.chan → c ≢ base.chan + 2 → (round_state base s).tokens c ≡ s.tokens c
    unfolding round_state
    round_other c h g = push_other (pop s (base.chan + 2)) base.chan _ c h ∙ pop_other s (base.chan + 2) c g

    round_b : (round_state base s).tokens base.chan ≡ s.tokens base.chan ++ first_or credit (s.tokens (base.chan + 2)) ∷ []
    unfolding round_state
    round_b =
        push_same (pop s (base.chan + 2)) base.chan _
        ∙ ap (λ z. z ++ first_or credit (s.tokens (base.chan + 2)) ∷ []) (pop_other s (base.chan + 2) base.chan (omega arith))

    round_f : (round_state base s).tokens (base.chan + 2) ≡ rest_of (s.tokens (base.chan + 2))
    unfolding round_state
    round_f = push_other (pop s (base.chan + 2)) base.chan _ (base.chan + 2) (omega arith) ∙ pop_same s (base.chan + 2)

    round_own : (p : ℕ) → (round_state base s).own p ≡ s.own p
    unfolding round_state
    round_own p = push_own (pop s (base.chan + 2)) base.chan _ p ∙ pop_own s (base.chan + 2) p

    round_right : has_first (s.tokens (base.chan + 2)) ≡ true → Right s (round_state base s)
    round_right full =
        let fr = front (s.tokens (base.chan + 2)) full in
        let al = around_alike s (round_state base s) (round_around base s) in
        let r : line Q (round_state base s) ++ map (over Q.meaning) ((round_state base s).tokens (base.chan + 2))
        ≡ line Q s ++ map (over Q.meaning) (s.tokens (base.chan + 2)) =
        ring_is s (round_state base s) _ _ _ al.pending
        (round_other (base.chan + 1) (omega arith) (omega arith)) round_b round_f
        ∙ round_ring (s.tokens (base.chan + 1)) (Q.pending s) (s.tokens base.chan) (first_or credit (s.tokens (base.chan + 2)))
        (rest_of (s.tokens (base.chan + 2)))
        ∙ ap (ring_at s (s.tokens (base.chan + 1)) (s.tokens base.chan)) (sym fr) ∙ sym ring_now in
        let i = round_other base.input (omega (arith, gi)) (omega (arith, gi)) in
        let v : view_of base Q (round_state base s) ≡ view_of base Q s =
        view_is (round_state base s) _ _ _ _ _ _ _
        (ap (λ o. o.number) (round_own base.proc)) (ap (λ o. o.number) (round_own (base.proc + 1)))
        (ap length (round_other (base.chan + 3) (omega arith) (omega arith)))
        (ap (λ o. o.held) (round_own (base.proc + 1)))
        r i (round_other base.output (omega (arith, go)) (omega (arith, go))) in
        let d = due_is (round_state base s) _ _ _ _ _ _ (ap length i)
        (ap length round_b ∙ one_more (s.tokens base.chan) _) al.owed (ap (ring_due (turns_of units.tree node) Q.firings) r)
        (ap length round_f) (ap (λ o. length o.held) (round_own (base.proc + 1))) in
        let e = due_now _ _ _ _ _ _ refl refl refl refl (ap length fr) refl in
        record {
          goes = record {
            kept = subst (λ z. Kept (laps_of units node Q) tokens z) (sym v) k;
            line = ap (view_line (laps_of units node Q)) v;
          };
          work = less_by d e (round_falls _ _ _ _ _ _ _ _);
        }

    -- LET IN
    let_in_other : (c : ℕ) → c ≢ base.chan → c ≢ base.input → c ≢ base.chan + 3 →
        (let_in_state base s).tokens c ≡ s.tokens c
    unfolding let_in_state
    let_in_other c h g j =
        set_tokens (push (pop (pop s base.input) (base.chan + 3)) base.chan _) base.proc _ c
        ∙ push_other (pop (pop s base.input) (base.chan + 3)) base.chan _ c h
        ∙ pop_other (pop s base.input) (base.chan + 3) c j ∙ pop_other s base.input c g

    let_in_b : (let_in_state base s).tokens base.chan
        ≡ s.tokens base.chan ++ admitted (s.own base.proc).number (first_or credit (s.tokens base.input)) ∷ []
    unfolding let_in_state
    let_in_b =
        set_tokens (push (pop (pop s base.input) (base.chan + 3)) base.chan _) base.proc _ base.chan
        ∙ push_same (pop (pop s base.input) (base.chan + 3)) base.chan _
        ∙ ap (λ z. z ++ admitted (s.own base.proc).number (first_or credit (s.tokens base.input)) ∷ [])
        (pop_other (pop s base.input) (base.chan + 3) base.chan (omega arith)
        ∙ pop_other s base.input base.chan (omega (arith, gi)))

    let_in_i : (let_in_state base s).tokens base.input ≡ rest_of (s.tokens base.input)
    unfolding let_in_state
    let_in_i =
        set_tokens (push (pop (pop s base.input) (base.chan + 3)) base.chan _) base.proc _ base.input
        ∙ push_other (pop (pop s base.input) (base.chan + 3)) base.chan _ base.input (omega (arith, gi))
        ∙ pop_other (pop s base.input) (base.chan + 3) base.input (omega (arith, gi)) ∙ pop_same s base.input

    let_in_k : (let_in_state base s).tokens (base.chan + 3) ≡ rest_of (s.tokens (base.chan + 3))
    unfolding let_in_state
    let_in_k =
        set_tokens (push (pop (pop s base.input) (base.chan + 3)) base.chan _) base.proc _ (base.chan + 3)
        ∙ push_other (pop (pop s base.input) (base.chan + 3)) base.chan _ (base.chan + 3) (omega arith)
        ∙ pop_same (pop s base.input) (base.chan + 3)
        ∙ ap rest_of (pop_other s base.input (base.chan + 3) (omega (arith, gi)))

    let_in_head : (let_in_state base s).own base.proc ≡ counted (s.own base.proc)
    unfolding let_in_state
    let_in_head = own_same (push (pop (pop s base.input) (base.chan + 3)) base.chan _) base.proc _

    let_in_tail : (let_in_state base s).own (base.proc + 1) ≡ s.own (base.proc + 1)
    unfolding let_in_state
    let_in_tail =
        own_other (push (pop (pop s base.input) (base.chan + 3)) base.chan _) base.proc _ (base.proc + 1) (omega arith)
        ∙ push_own (pop (pop s base.input) (base.chan + 3)) base.chan _ (base.proc + 1)
        ∙ pop_own (pop s base.input) (base.chan + 3) (base.proc + 1) ∙ pop_own s base.input (base.proc + 1)

    counted_count : (o : LocalState) → (counted o).number ≡ o.number + 1
    counted_count o = refl

    first_turn : (n : ℕ) (x : Token) (f : List Token) →
        ring_due (turns_of units.tree node) Q.firings (over Q.meaning (admitted n x) ∷ f)
        ≡ ((turns_of units.tree node - 1) * (Q.firings + 2) + 2) + ring_due (turns_of units.tree node) Q.firings f
    unfolding ring_due first_tag
    first_turn n x f = refl

    line_now : line Q s ≡ s.tokens (base.chan + 1) ++ (Q.pending s ++ map (over Q.meaning) (s.tokens base.chan))
    unfolding line
    line_now = ap₂ (λ d b. s.tokens d ++ (Q.pending s ++ map (over Q.meaning) (s.tokens b))) fits.output fits.input

    -- also while a token comes back
    let_in_right : has_first (s.tokens base.input) ≡ true → has_first (s.tokens (base.chan + 3)) ≡ true →
        Right s (let_in_state base s)
    let_in_right full credited =
        let fi = front (s.tokens base.input) full in
        let fk = front (s.tokens (base.chan + 3)) credited in
        let al = around_alike s (let_in_state base s) (let_in_around base s) in
        let f = let_in_other (base.chan + 2) (omega arith) (omega (arith, gi)) (omega arith) in
        let r : line Q (let_in_state base s) ++ map (over Q.meaning) ((let_in_state base s).tokens (base.chan + 2))
        ≡ line Q s
        ++ over Q.meaning (admitted (s.own base.proc).number (first_or credit (s.tokens base.input)))
        ∷ map (over Q.meaning) (s.tokens (base.chan + 2)) =
        ring_is s (let_in_state base s) _ _ _ al.pending
        (let_in_other (base.chan + 1) (omega arith) (omega (arith, gi)) (omega arith)) let_in_b f
        ∙ let_in_ring (s.tokens (base.chan + 1)) (Q.pending s) (s.tokens base.chan)
        (admitted (s.own base.proc).number (first_or credit (s.tokens base.input))) (s.tokens (base.chan + 2))
        ∙ ap (λ z. z
        ++ over Q.meaning (admitted (s.own base.proc).number (first_or credit (s.tokens base.input)))
        ∷ map (over Q.meaning) (s.tokens (base.chan + 2))) (sym line_now) in
        let v : view_of base Q (let_in_state base s)
        ≡ let_in_view (laps_of units node Q) tokens (view_of base Q s) k (line Q s)
        (map (over Q.meaning) (s.tokens (base.chan + 2))) (first_or credit (s.tokens base.input))
        (rest_of (s.tokens base.input)) (length (rest_of (s.tokens (base.chan + 3)))) =
        view_is (let_in_state base s) _ _ _ _ _ _ _
        (ap (λ o. o.number) let_in_head ∙ counted_count (s.own base.proc)) (ap (λ o. o.number) let_in_tail)
        (ap length let_in_k) (ap (λ o. o.held) let_in_tail)
        r let_in_i (let_in_other base.output (omega (arith, go)) (λ e. gn (sym e)) (omega (arith, go))) in
        let d = due_is (let_in_state base s) _ _ _ _ _ _ (ap length let_in_i)
        (ap length let_in_b ∙ one_more (s.tokens base.chan) _) al.owed
        (ap (ring_due (turns_of units.tree node) Q.firings) r ∙ ring_append (turns_of units.tree node) Q.firings _ _
        ∙ ap (λ z. ring_due (turns_of units.tree node) Q.firings (line Q s) + z) (first_turn _ _ _))
        (ap length f)
        (ap (λ o. length o.held) let_in_tail) in
        let e = due_now _ _ _ _ _ _ (ap length fi) refl refl
        (ring_append (turns_of units.tree node) Q.firings (line Q s) (map (over Q.meaning) (s.tokens (base.chan + 2)))) refl refl in
        record {
          goes = subst (λ z. Goes (laps_of units node Q) tokens (view_of base Q s) z) (sym v)
              (let_in_goes (laps_of units node Q) tokens (view_of base Q s) k (line Q s)
              (map (over Q.meaning) (s.tokens (base.chan + 2))) refl _ _ _ fi (ap length fk));
          work = less_by d e (let_in_falls _ _ _ _ _ _ _ _ _);
        }

    -- HOLD
    hold_other : (w : Outcome) (c : ℕ) → c ≢ base.chan + 1 → (hold_state base w s).tokens c ≡ s.tokens c
    unfolding hold_state
    hold_other w c h = set_tokens (pop s (base.chan + 1)) (base.proc + 1) _ c ∙ pop_other s (base.chan + 1) c h

    hold_d : (w : Outcome) → (hold_state base w s).tokens (base.chan + 1) ≡ rest_of (s.tokens (base.chan + 1))
    unfolding hold_state
    hold_d w = set_tokens (pop s (base.chan + 1)) (base.proc + 1) _ (base.chan + 1) ∙ pop_same s (base.chan + 1)

    hold_head : (w : Outcome) → (hold_state base w s).own base.proc ≡ s.own base.proc
    unfolding hold_state
    hold_head w =
        own_other (pop s (base.chan + 1)) (base.proc + 1) _ base.proc (omega arith)
        ∙ pop_own s (base.chan + 1) base.proc

    hold_tail : (w : Outcome) →
        (hold_state base w s).own (base.proc + 1)
        ≡ record {
          number = (s.own (base.proc + 1)).number;
          held = (s.own (base.proc + 1)).held ++ record (first_or credit (s.tokens (base.chan + 1))) { body = w } ∷ [];
        }
    unfolding hold_state
    hold_tail w = own_same (pop s (base.chan + 1)) (base.proc + 1) _

    -- the ring begins with the front of D
    ring_front : has_first (s.tokens (base.chan + 1)) ≡ true →
        line Q s ++ map (over Q.meaning) (s.tokens (base.chan + 2))
        ≡ first_or credit (s.tokens (base.chan + 1)) ∷ ring_at s (rest_of (s.tokens (base.chan + 1))) (s.tokens base.chan)
        (s.tokens (base.chan + 2))
    ring_front full =
        ring_now ∙ ap (λ z. ring_at s z (s.tokens base.chan) (s.tokens (base.chan + 2)))
        (front (s.tokens (base.chan + 1)) full)

    hold_right : (w : Outcome) → has_first (s.tokens (base.chan + 1)) ≡ true →
        turn_of (test_of units.tree units.leaf node) (spent_of units.tree node) (nat_lt (newest_tag (first_or credit (s.tokens (base.chan + 1)))) (turns_of units.tree node))
        (first_or credit (s.tokens (base.chan + 1))).body ≡ Held w → Right s (hold_state base w s)
    unfolding ring_due
    hold_right w full h =
        let al = around_alike s (hold_state base w s) (hold_around base s w) in
        let r = ring_is s (hold_state base w s) _ _ _ al.pending (hold_d w) (hold_other w base.chan (omega arith))
        (hold_other w (base.chan + 2) (omega arith)) in
        let i = hold_other w base.input (omega (arith, gi)) in
        let v : view_of base Q (hold_state base w s)
        ≡ hold_view (laps_of units node Q) tokens (view_of base Q s) k (first_or credit (s.tokens (base.chan + 1)))
        (ring_at s (rest_of (s.tokens (base.chan + 1))) (s.tokens base.chan) (s.tokens (base.chan + 2))) w =
        view_is (hold_state base w s) _ _ _ _ _ _ _
        (ap (λ o. o.number) (hold_head w)) (ap (λ o. o.number) (hold_tail w))
        (ap length (hold_other w (base.chan + 3) (omega arith))) (ap (λ o. o.held) (hold_tail w))
        r i (hold_other w base.output (omega (arith, go))) in
        let d = due_is (hold_state base w s) _ _ _ _ _ _ (ap length i)
        (ap length (hold_other w base.chan (omega arith))) al.owed (ap (ring_due (turns_of units.tree node) Q.firings) r)
        (ap length (hold_other w (base.chan + 2) (omega arith)))
        (ap (λ o. length o.held) (hold_tail w) ∙ one_more (s.own (base.proc + 1)).held _) in
        let e = due_now _ _ _ _ _ _ refl refl refl
        (ap (ring_due (turns_of units.tree node) Q.firings) (ring_front full)) refl refl in
        record {
          goes = subst (λ z. Goes (laps_of units node Q) tokens (view_of base Q s) z) (sym v)
              (hold_goes (laps_of units node Q) tokens (view_of base Q s) k _ _ w (ring_front full) h);
          work = less_by d e (hold_falls _ _ _ _ _ _ _ _ _);
        }

    -- AGAIN
    again_other : (c : ℕ) → c ≢ base.chan + 1 → c ≢ base.chan + 2 → (again_state base s).tokens c ≡ s.tokens c
    unfolding again_state
    again_other c h g = push_other (pop s (base.chan + 1)) (base.chan + 2) _ c g ∙ pop_other s (base.chan + 1) c h

    again_d : (again_state base s).tokens (base.chan + 1) ≡ rest_of (s.tokens (base.chan + 1))
    unfolding again_state
    again_d =
        push_other (pop s (base.chan + 1)) (base.chan + 2) _ (base.chan + 1) (omega arith) ∙ pop_same s (base.chan + 1)

    again_f : (again_state base s).tokens (base.chan + 2)
        ≡ s.tokens (base.chan + 2) ++ once_more (first_or credit (s.tokens (base.chan + 1))) ∷ []
    unfolding again_state
    again_f =
        push_same (pop s (base.chan + 1)) (base.chan + 2) _
        ∙ ap (λ z. z ++ once_more (first_or credit (s.tokens (base.chan + 1))) ∷ [])
        (pop_other s (base.chan + 1) (base.chan + 2) (omega arith))

    again_own : (p : ℕ) → (again_state base s).own p ≡ s.own p
    unfolding again_state
    again_own p = push_own (pop s (base.chan + 1)) (base.chan + 2) _ p ∙ pop_own s (base.chan + 1) p

    again_turn : (y : Token) → 0 < newest_tag y →
        ring_due (turns_of units.tree node) Q.firings (over Q.meaning (once_more y) ∷ [])
        ≡ ((turns_of units.tree node - suc (newest_tag y)) * (Q.firings + 2) + 2) + 0
    unfolding ring_due
    again_turn y h = ap (λ z. ((turns_of units.tree node - z) * (Q.firings + 2) + 2) + 0) (next_turn y h)

    again_right : has_first (s.tokens (base.chan + 1)) ≡ true →
        turn_of (test_of units.tree units.leaf node) (spent_of units.tree node) (nat_lt (newest_tag (first_or credit (s.tokens (base.chan + 1)))) (turns_of units.tree node))
        (first_or credit (s.tokens (base.chan + 1))).body ≡ Again → Right s (again_state base s)
    unfolding ring_due
    again_right full h =
        let y : Token = first_or credit (s.tokens (base.chan + 1)) in
        let al = around_alike s (again_state base s) (again_around base s) in
        let t = turns_rest (turns_of units.tree node) _ _ (ap (in_turns (turns_of units.tree node)) (sym (ring_front full)) ∙ k.turns) in
        let a = (after_again (laps_of units node Q) (newest_tag (first_or credit (s.tokens (base.chan + 1)))) _ h).0 in
        let r : line Q (again_state base s) ++ map (over Q.meaning) ((again_state base s).tokens (base.chan + 2))
        ≡ ring_at s (rest_of (s.tokens (base.chan + 1))) (s.tokens base.chan) (s.tokens (base.chan + 2))
        ++ over Q.meaning (once_more (first_or credit (s.tokens (base.chan + 1)))) ∷ [] =
        ring_is s (again_state base s) _ _ _ al.pending again_d
        (again_other base.chan (omega arith) (omega arith)) again_f
        ∙ again_ring (rest_of (s.tokens (base.chan + 1))) (Q.pending s) (s.tokens base.chan) (s.tokens (base.chan + 2))
        (once_more (first_or credit (s.tokens (base.chan + 1)))) in
        let i = again_other base.input (omega (arith, gi)) (omega (arith, gi)) in
        let v : view_of base Q (again_state base s)
        ≡ again_view (laps_of units node Q) tokens (view_of base Q s) k (first_or credit (s.tokens (base.chan + 1)))
        (ring_at s (rest_of (s.tokens (base.chan + 1))) (s.tokens base.chan) (s.tokens (base.chan + 2))) =
        view_is (again_state base s) _ _ _ _ _ _ _
        (ap (λ o. o.number) (again_own base.proc)) (ap (λ o. o.number) (again_own (base.proc + 1)))
        (ap length (again_other (base.chan + 3) (omega arith) (omega arith)))
        (ap (λ o. o.held) (again_own (base.proc + 1)))
        r i (again_other base.output (omega (arith, go)) (omega (arith, go))) in
        let d = due_is (again_state base s) _ _ _ _ _ _ (ap length i)
        (ap length (again_other base.chan (omega arith) (omega arith))) al.owed
        (ap (ring_due (turns_of units.tree node) Q.firings) r ∙ ring_append (turns_of units.tree node) Q.firings _ _
        ∙ ap (λ z. ring_due (turns_of units.tree node) Q.firings
        (ring_at s (rest_of (s.tokens (base.chan + 1))) (s.tokens base.chan) (s.tokens (base.chan + 2)))
        + z) (again_turn (first_or credit (s.tokens (base.chan + 1))) t.0))
        (ap length again_f ∙ one_more (s.tokens (base.chan + 2)) _)
        (ap (λ o. length o.held) (again_own (base.proc + 1))) in
        let u : turns_of units.tree node - newest_tag (first_or credit (s.tokens (base.chan + 1)))
        ≡ suc (turns_of units.tree node - suc (newest_tag (first_or credit (s.tokens (base.chan + 1))))) = omega (arith, a) in
        let e = due_now _ _ _ _ _ _ refl refl refl
        (ap (ring_due (turns_of units.tree node) Q.firings) (ring_front full)
        ∙ ap (λ z. (z * (Q.firings + 2) + 2)
        + ring_due (turns_of units.tree node) Q.firings
        (ring_at s (rest_of (s.tokens (base.chan + 1))) (s.tokens base.chan) (s.tokens (base.chan + 2)))) u)
        refl refl in
        record {
          goes = subst (λ z. Goes (laps_of units node Q) tokens (view_of base Q s) z) (sym v)
              (again_goes (laps_of units node Q) tokens (view_of base Q s) k _ _ (ring_front full) h);
          work = less_by d e (again_falls _ _ _ _ _ _ _ _ _);
        }

    -- RELEASE
    release_other : (c : ℕ) → c ≢ base.output → c ≢ base.chan + 3 → (release_state base s).tokens c ≡ s.tokens c
    unfolding release_state
    release_other c h g =
        set_tokens (push (push s base.output _) (base.chan + 3) credit) (base.proc + 1) _ c
        ∙ push_other (push s base.output _) (base.chan + 3) credit c g ∙ push_other s base.output _ c h

    release_out : (release_state base s).tokens base.output
        ≡ s.tokens base.output
        ++ untagged (untagged (pick_number (s.own (base.proc + 1)).number (s.own (base.proc + 1)).held)) ∷ []
    unfolding release_state
    release_out =
        set_tokens (push (push s base.output _) (base.chan + 3) credit) (base.proc + 1) _ base.output
        ∙ push_other (push s base.output _) (base.chan + 3) credit base.output (omega (arith, go))
        ∙ push_same s base.output _

    release_k : (release_state base s).tokens (base.chan + 3) ≡ s.tokens (base.chan + 3) ++ credit ∷ []
    unfolding release_state
    release_k =
        set_tokens (push (push s base.output _) (base.chan + 3) credit) (base.proc + 1) _ (base.chan + 3)
        ∙ push_same (push s base.output _) (base.chan + 3) credit
        ∙ ap (λ z. z ++ credit ∷ []) (push_other s base.output _ (base.chan + 3) (omega (arith, go)))

    release_head : (release_state base s).own base.proc ≡ s.own base.proc
    unfolding release_state
    release_head =
        own_other (push (push s base.output _) (base.chan + 3) credit) (base.proc + 1) _ base.proc (omega arith)
        ∙ push_own (push s base.output _) (base.chan + 3) credit base.proc ∙ push_own s base.output _ base.proc

    release_tail : (release_state base s).own (base.proc + 1)
        ≡ record {
          number = (s.own (base.proc + 1)).number + 1;
          held = drop_number (s.own (base.proc + 1)).number (s.own (base.proc + 1)).held;
        }
    unfolding release_state
    release_tail = own_same (push (push s base.output _) (base.chan + 3) credit) (base.proc + 1) _

    dropped_length : has_number (s.own (base.proc + 1)).number (s.own (base.proc + 1)).held ≡ true →
        length (s.own (base.proc + 1)).held
        ≡ suc (length (drop_number (s.own (base.proc + 1)).number (s.own (base.proc + 1)).held))
    dropped_length h =
        let f = found (s.own (base.proc + 1)).number (s.own (base.proc + 1)).held h in
        ap length f.whole ∙ without_count f.before _ f.after ∙ ap (λ z. suc (length z)) (sym f.others)

    release_right : has_number (s.own (base.proc + 1)).number (s.own (base.proc + 1)).held ≡ true →
        Right s (release_state base s)
    release_right h =
        let al = around_alike s (release_state base s) (release_around base s) in
        let r = ring_is s (release_state base s) _ _ _ al.pending
        (release_other (base.chan + 1) (omega (arith, go)) (omega arith))
        (release_other base.chan (omega (arith, go)) (omega arith))
        (release_other (base.chan + 2) (omega (arith, go)) (omega arith)) ∙ sym ring_now in
        let i = release_other base.input gn (omega (arith, gi)) in
        let v : view_of base Q (release_state base s) ≡ release_view (laps_of units node Q) tokens (view_of base Q s) k =
        view_is (release_state base s) _ _ _ _ _ _ _
        (ap (λ o. o.number) release_head) (ap (λ o. o.number) release_tail)
        (ap length release_k ∙ one_more (s.tokens (base.chan + 3)) credit) (ap (λ o. o.held) release_tail)
        r i release_out in
        let d = due_is (release_state base s) _ _ _ _ _ _ (ap length i)
        (ap length (release_other base.chan (omega (arith, go)) (omega arith))) al.owed
        (ap (ring_due (turns_of units.tree node) Q.firings) r)
        (ap length (release_other (base.chan + 2) (omega (arith, go)) (omega arith)))
        (ap (λ o. length o.held) release_tail) in
        let e = due_now _ _ _ _ _ _ refl refl refl refl refl (dropped_length h) in
        record {
          goes = subst (λ z. Goes (laps_of units node Q) tokens (view_of base Q s) z) (sym v)
              (release_goes (laps_of units node Q) tokens (view_of base Q s) k h);
          work = less_by d e (release_falls _ _ _ _ _ _ _ _);
        }

  -- THE ROWS GIVE THESE STATES
  tail_stands : slice_get net.procs (base.proc + 1) ≡ Some (tail_proc node base)
  unfolding AreStanding
  tail_stands = let e : base.proc + 1 ≡ suc base.proc = omega arith in ap (slice_get net.procs) e ∙ stands.1.0

  head_stands : slice_get net.procs base.proc ≡ Some (head_proc node base)
  unfolding AreStanding
  head_stands = stands.0

  module _ (s : State) where
    head_round : sent_round s (head_proc node base) ≡ round_state base s
    unfolding sent_round round_state
    head_round = refl

    head_in : let_in s base.proc (s.own base.proc) (head_proc node base) ≡ let_in_state base s
    unfolding let_in let_in_state
    head_in = refl

    -- Tail's verdict
    abbrev verdict : Turn
    verdict =
        turn_of (test_of units.tree units.leaf node) (spent_of units.tree node) (nat_lt (newest_tag (first_or credit (s.tokens (base.chan + 1)))) (turns_of units.tree node))
        (first_or credit (s.tokens (base.chan + 1))).body

    abbrev releases : Bool
    releases =
        has_number (s.own (base.proc + 1)).number (s.own (base.proc + 1)).held
        && (has_room net s base.output && has_room net s (base.chan + 3))

    tail_out : release s (base.proc + 1) (s.own (base.proc + 1)) (tail_proc node base) ≡ release_state base s
    unfolding release release_state tail.after_release
    tail_out = refl

    take_held : (w : Outcome) →
        take_turn (Held w) s (base.proc + 1) (s.own (base.proc + 1)) (tail_proc node base)
        (first_or credit (s.tokens (base.chan + 1))) ≡ hold_state base w s
    unfolding take_turn hold_state
    take_held w = refl

    take_again : take_turn Again s (base.proc + 1) (s.own (base.proc + 1)) (tail_proc node base)
        (first_or credit (s.tokens (base.chan + 1))) ≡ again_state base s
    unfolding take_turn again_state
    take_again = refl

    cases_turn : (t : Turn) → ((w : Outcome) × (t ≡ Held w)) ⊎ (t ≡ Again)
    cases_turn (Held w) = inl (w, refl)
    cases_turn Again = inr refl

    -- the state after Tail
    -- whichever of the two it does
    tail_goes : (t : State) (A : State → Type 0) →
        (has_number (s.own (base.proc + 1)).number (s.own (base.proc + 1)).held ≡ true → A (release_state base s)) →
        ((w : Outcome) → has_first (s.tokens (base.chan + 1)) ≡ true → verdict ≡ Held w → A (hold_state base w s)) →
        (has_first (s.tokens (base.chan + 1)) ≡ true → verdict ≡ Again → A (again_state base s)) →
        MayFire units.tree units.leaf net s (base.proc + 1) t → A t
    unfolding row_ways
    tail_goes t A f g h way =
        let either : LetsOut (eyes_of net s) s (base.proc + 1) (s.own (base.proc + 1)) (tail_proc node base) t
        ⊎ TakesTurn units.tree units.leaf (eyes_of net s) s (base.proc + 1) (s.own (base.proc + 1)) (tail_proc node base) t =
        way_at net units s (base.proc + 1) (tail_proc node base) tail_stands t way in
        elim either [
          | inl w ↦ subst A (sym (w.is ∙ tail_out)) (f w.holds)
          | inr w ↦ elim (cases_turn verdict) [
            | inl v ↦
                subst A (sym (w.is
                ∙ ap (λ z. take_turn z s (base.proc + 1) (s.own (base.proc + 1)) (tail_proc node base)
                (first_or credit (s.tokens (base.chan + 1)))) v.1 ∙ take_held v.0)) (g v.0 w.full v.1)
            | inr v ↦
                subst A (sym (w.is
                ∙ ap (λ z. take_turn z s (base.proc + 1) (s.own (base.proc + 1)) (tail_proc node base)
                (first_or credit (s.tokens (base.chan + 1)))) v ∙ take_again)) (h w.full v)
          ]
        ]

    head_goes : (t : State) (A : State → Type 0) → (has_first (s.tokens (base.chan + 2)) ≡ true → A (round_state base s)) →
        (has_first (s.tokens base.input) ≡ true → has_first (s.tokens (base.chan + 3)) ≡ true → A (let_in_state base s)) →
        MayFire units.tree units.leaf net s base.proc t → A t
    unfolding row_ways
    head_goes t A f g way =
        let either : SendsRound (eyes_of net s) s (head_proc node base) t
        ⊎ LetsIn (eyes_of net s) s base.proc (s.own base.proc) (head_proc node base) t =
        way_at net units s base.proc (head_proc node base) head_stands t way in
        elim either [
          | inl w ↦ subst A (sym (w.is ∙ head_round)) (f w.back)
          | inr w ↦ subst A (sym (w.is ∙ head_in)) (g w.full w.credit)
        ]

    head_around : (t : State) → MayFire units.tree units.leaf net s base.proc t → Around base s t
    head_around t = head_goes t (Around base s) (λ _. round_around base s) (λ _ _. let_in_around base s)

    tail_around : (t : State) → MayFire units.tree units.leaf net s (base.proc + 1) t → Around base s t
    tail_around t =
        tail_goes t (Around base s) (λ _. release_around base s) (λ w _ _. hold_around base s w)
        (λ _ _. again_around base s)

    head_right : Kept (laps_of units node Q) tokens (view_of base Q s) → (t : State) →
        MayFire units.tree units.leaf net s base.proc t → Right s t
    head_right k t = head_goes t (Right s) (round_right s k) (let_in_right s k)

    tail_right : Kept (laps_of units node Q) tokens (view_of base Q s) → (t : State) →
        MayFire units.tree units.leaf net s (base.proc + 1) t → Right s t
    tail_right k t = tail_goes t (Right s) (release_right s k) (hold_right s k) (again_right s k)

    -- THE BODY FIRES
    module _ (t : State) (m : Moves Q s t) where
      body_moves : Moves (loop_over units node tokens base Q) s t
      body_moves = record {
        tokens = λ c i o f.
            m.tokens c (λ e. omega (arith, e, f, fits.input, fits.chan, fits.lawful.chans))
            (λ e. omega (arith, e, f, fits.output, fits.chan, fits.lawful.chans)) (λ g. omega (arith, f, g, fits.chan));
        own = λ p f. m.own p (λ g. omega (arith, f, g, fits.proc));
        unsent = m.unsent;
        sent = m.sent;
        emitted = m.emitted;
      }

      body_own : (p : ℕ) → p < base.proc + 2 → t.own p ≡ s.own p
      body_own p l = m.own p (λ g. absurd (omega (arith, l, g, fits.proc)))

      body_tokens : (c : ℕ) → c < base.chan + 4 → c ≢ base.chan → c ≢ base.chan + 1 → t.tokens c ≡ s.tokens c
      body_tokens c l b d =
          m.tokens c (λ e. b (e ∙ fits.input)) (λ e. d (e ∙ fits.output)) (λ g. absurd (omega (arith, l, g, fits.chan)))

      body_right : Kept (laps_of units node Q) tokens (view_of base Q s) → line Q t ≡ line Q s →
          due Q t < due Q s → Right s t
      unfolding due
      body_right k e w =
          let f = body_tokens (base.chan + 2) (omega arith) (omega arith) (omega arith) in
          let i = body_tokens base.input (omega (arith, gi)) (omega (arith, gi)) (omega (arith, gi)) in
          let r : line Q t ++ map (over Q.meaning) (t.tokens (base.chan + 2))
          ≡ line Q s ++ map (over Q.meaning) (s.tokens (base.chan + 2)) =
          ap₂ (λ y z. y ++ map (over Q.meaning) z) e f in
          let v : view_of base Q t ≡ view_of base Q s =
          view_is t _ _ _ _ _ _ _
          (ap (λ o. o.number) (body_own base.proc (omega arith)))
          (ap (λ o. o.number) (body_own (base.proc + 1) (omega arith)))
          (ap length (body_tokens (base.chan + 3) (omega arith) (omega arith) (omega arith)))
          (ap (λ o. o.held) (body_own (base.proc + 1) (omega arith)))
          r i (body_tokens base.output (omega (arith, go)) (omega (arith, go)) (omega (arith, go))) in
          let d : due (loop_over units node tokens base Q) t
          ≡ loop_firings (turns_of units.tree node) Q.firings * length (s.tokens base.input)
          + (due Q t + (ring_due (turns_of units.tree node) Q.firings
          (line Q s ++ map (over Q.meaning) (s.tokens (base.chan + 2)))
          + ((Q.firings + 1) * length (s.tokens (base.chan + 2)) + length (s.own (base.proc + 1)).held))) =
          λ j. loop_firings (turns_of units.tree node) Q.firings * length (i j)
          + (due Q t + (ring_due (turns_of units.tree node) Q.firings (r j)
          + ((Q.firings + 1) * length (f j) + length ((body_own (base.proc + 1) (omega arith)) j).held))) in
          record {
            goes = record {
              kept = subst (λ z. Kept (laps_of units node Q) tokens z) (sym v) k;
              line = ap (view_line (laps_of units node Q)) v;
            };
            work = less_by d refl (body_falls _ Q.firings _ _ _ _ _ _ w);
          }

    -- THE THREE LAWS OF A FIRING
    abbrev PickedOf : ℕ → Type 0
    PickedOf p = (p ≡ base.proc) ⊎ ((p ≡ base.proc + 1) ⊎ IsInside Q p)

    picked : (p : ℕ) → IsInside (loop_over units node tokens base Q) p → PickedOf p
    picked p i =
        elim (cases_eq p base.proc) [
          | inl e ↦ inl e
          | inr e ↦ elim (cases_eq p (base.proc + 1)) [
            | inl d ↦ inr (inl d)
            | inr d ↦ inr (inr (record { from = omega (arith, e, d, i.from, fits.proc); to = i.to }))
          ]
        ]

    loop_moves : (t : State) (p : ℕ) → IsInside (loop_over units node tokens base Q) p → MayFire units.tree units.leaf net s p t →
        Moves (loop_over units node tokens base Q) s t
    loop_moves t p i way =
        elim (picked p i) [
          | inl e ↦ around_moves s t (head_around t (subst (λ z. MayFire units.tree units.leaf net s z t) e way))
          | inr r ↦ elim r [
            | inl e ↦ around_moves s t (tail_around t (subst (λ z. MayFire units.tree units.leaf net s z t) e way))
            | inr j ↦ body_moves t (fits.lawful.moves s t p j way)
          ]
        ]

    -- the body stays orderly, and the step is right
    record Step (t : State) : Type 0 where
      body : Q.orderly t ≡ true
      right : Right s t

    loop_step : (t : State) (p : ℕ) → IsInside (loop_over units node tokens base Q) p → MayFire units.tree units.leaf net s p t →
        Q.orderly s ≡ true → Kept (laps_of units node Q) tokens (view_of base Q s) → Step t
    loop_step t p i way h k =
        elim (picked p i) [
          | inl e ↦
              let w = subst (λ z. MayFire units.tree units.leaf net s z t) e way in
              record { body = (around_alike s t (head_around t w)).orderly ∙ h; right = head_right k t w }
          | inr r ↦ elim r [
            | inl e ↦
                let w = subst (λ z. MayFire units.tree units.leaf net s z t) e way in
                record { body = (around_alike s t (tail_around t w)).orderly ∙ h; right = tail_right k t w }
            | inr j ↦
                let q = fits.lawful.step s t p j way h in
                record {
                  body = q.orderly;
                  right = body_right t (fits.lawful.moves s t p j way) k q.line (fits.lawful.work s t p j way h);
                }
          ]
        ]

  loop_line : (s : State) →
      line (loop_over units node tokens base Q) s ≡ view_line (laps_of units node Q) (view_of base Q s)
  unfolding line view_line
  loop_line s = refl

  -- READS
  line_same : (s t : State) → IsAlike Q s t → t.tokens base.chan ≡ s.tokens base.chan →
      t.tokens (base.chan + 1) ≡ s.tokens (base.chan + 1) → line Q t ≡ line Q s
  unfolding line
  line_same s t a b d = λ i.
      (ap t.tokens fits.output ∙ d ∙ ap s.tokens (sym fits.output)) i
      ++ (a.pending i ++ map (over Q.meaning) ((ap t.tokens fits.input ∙ b ∙ ap s.tokens (sym fits.input)) i))

  due_same : (s t : State) → IsAlike Q s t → t.tokens base.chan ≡ s.tokens base.chan → due Q t ≡ due Q s
  unfolding due
  due_same s t a b = λ i. Q.firings * length ((ap t.tokens fits.input ∙ b ∙ ap s.tokens (sym fits.input)) i) + a.owed i

  loop_reads : (s t : State) → IsSameInside (loop_over units node tokens base Q) s t →
      IsAlike (loop_over units node tokens base Q) s t
  unfolding to_come bag well_kept
  loop_reads s t same =
      let ch : (c : ℕ) → base.chan ≤ c → c < base.chan + 4 → t.tokens c ≡ s.tokens c = λ c f l.
      same.tokens c f (omega (arith, l, fits.chan, fits.lawful.chans)) in
      let ow : (p : ℕ) → base.proc ≤ p → p < base.proc + 2 → t.own p ≡ s.own p = λ p f l.
      same.own p f (omega (arith, l, fits.proc, fits.lawful.procs)) in
      let a : IsAlike Q s t = fits.lawful.reads s t (record {
        tokens = λ c f l. same.tokens c (omega (arith, f, fits.chan)) l;
        own = λ p f l. same.own p (omega (arith, f, fits.proc)) l;
      }) in
      let b = ch base.chan (omega arith) (omega arith) in
      let d = ch (base.chan + 1) (omega arith) (omega arith) in
      let f = ch (base.chan + 2) (omega arith) (omega arith) in
      let k = ch (base.chan + 3) (omega arith) (omega arith) in
      let n = ow base.proc (omega arith) (omega arith) in
      let r = ow (base.proc + 1) (omega arith) (omega arith) in
      let e : line Q t ++ map (over Q.meaning) (t.tokens (base.chan + 2))
      ≡ line Q s ++ map (over Q.meaning) (s.tokens (base.chan + 2)) =
      ap₂ (λ y z. y ++ map (over Q.meaning) z) (line_same s t a b d) f in
      record {
        pending = λ i.
            to_come (laps_of units node Q)
            (record {
              next = (n i).number;
              least = (r i).number;
              credits = length (k i);
              held = (r i).held;
              ring = e i;
              input = s.tokens base.input;
              output = s.tokens base.output;
            });
        orderly = λ i.
            a.orderly i && well_kept (laps_of units node Q) tokens
            (record {
              next = (n i).number;
              least = (r i).number;
              credits = length (k i);
              held = (r i).held;
              ring = e i;
              input = s.tokens base.input;
              output = s.tokens base.output;
            });
        owed = λ i.
            due_same s t a b i
            + (ring_due (turns_of units.tree node) Q.firings (e i) + ((Q.firings + 1) * length (f i) + length (r i).held));
      }

  bag_length : (v : View) → length (bag (laps_of units node Q) v) ≡ length v.held + length v.ring
  unfolding bag
  bag_length v =
      length-append (map untagged v.held) _
      ∙ ap₂ (λ x y. x + y) (length-map v.held untagged) (length-map v.ring (settled (laps_of units node Q)))

  ring_length : (s : State) →
      length (line Q s ++ map (over Q.meaning) (s.tokens (base.chan + 2)))
      ≡ (length (s.tokens (base.chan + 1)) + (length (Q.pending s) + length (s.tokens base.chan)))
      + length (s.tokens (base.chan + 2))
  ring_length s =
      ap length
      (ring_is s s (s.tokens (base.chan + 1)) (s.tokens base.chan) (s.tokens (base.chan + 2)) refl refl refl refl)
      ∙ length-append (s.tokens (base.chan + 1) ++ (Q.pending s ++ map (over Q.meaning) (s.tokens base.chan))) _
      ∙ ap₂ (λ x y. x + y)
      (length-append (s.tokens (base.chan + 1)) _
      ∙ ap (λ z. length (s.tokens (base.chan + 1)) + z)
      (length-append (Q.pending s) _
      ∙ ap (λ z. length (Q.pending s) + z) (length-map (s.tokens base.chan) (over Q.meaning))))
      (length-map (s.tokens (base.chan + 2)) (over Q.meaning))

  module _ (cap : ℕ)
      (laid : AreLaid net base.chan
      (empty_chan cap ∷ (empty_chan cap ∷ (empty_chan tokens ∷ (record { cap = tokens; credits = tokens } ∷ []))))) where
    -- BEGINS
    first_b : at_first net base.chan ≡ []
    unfolding at_first
    first_b = ap (λ z. replicate z.credits credit) (ap (chan_at net) (omega arith) ∙ laid.at 0 (omega arith))

    first_d : at_first net (base.chan + 1) ≡ []
    unfolding at_first
    first_d = ap (λ z. replicate z.credits credit) (laid.at 1 (omega arith))

    first_f : at_first net (base.chan + 2) ≡ []
    unfolding at_first
    first_f = ap (λ z. replicate z.credits credit) (laid.at 2 (omega arith))

    first_k : at_first net (base.chan + 3) ≡ replicate tokens credit
    unfolding at_first
    first_k = ap (λ z. replicate z.credits credit) (laid.at 3 (omega arith))

    cap_f : (chan_at net (base.chan + 2)).cap ≡ tokens
    cap_f = ap (λ z. z.cap) (laid.at 2 (omega arith))

    cap_k : (chan_at net (base.chan + 3)).cap ≡ tokens
    cap_k = ap (λ z. z.cap) (laid.at 3 (omega arith))

    none_kept : (i o : List Token) →
        Kept (laps_of units node Q) tokens
        (record { next = 0; least = 0; credits = tokens; held = []; ring = []; input = i; output = o })
    unfolding bag in_turns look
    none_kept i o = record {
      count = refl;
      credits = omega arith;
      turns = refl;
      spent = refl;
      numbered = record { once = λ k f l. absurd (omega (arith, l)); none = λ k l. refl };
    }

    loop_begins : (s : State) → IsFresh net (loop_over units node tokens base Q) s →
        Begins (loop_over units node tokens base Q) s
    unfolding line due to_come bag read ring_due
    loop_begins s begun =
        let ch : (c : ℕ) → base.chan ≤ c → c < base.chan + 4 → s.tokens c ≡ at_first net c = λ c f l.
        begun.tokens c f (omega (arith, l, fits.chan, fits.lawful.chans)) in
        let ow : (p : ℕ) → base.proc ≤ p → p < base.proc + 2 → s.own p ≡ fresh = λ p f l.
        begun.own p f (omega (arith, l, fits.proc, fits.lawful.procs)) in
        let q : Begins Q s = fits.lawful.begins s (record {
          tokens = λ c f l. begun.tokens c (omega (arith, f, fits.chan)) l;
          own = λ p f l. begun.own p (omega (arith, f, fits.proc)) l;
        }) in
        let b : s.tokens base.chan ≡ [] = ch base.chan (omega arith) (omega arith) ∙ first_b in
        let d : s.tokens (base.chan + 1) ≡ [] = ch (base.chan + 1) (omega arith) (omega arith) ∙ first_d in
        let f : s.tokens (base.chan + 2) ≡ [] = ch (base.chan + 2) (omega arith) (omega arith) ∙ first_f in
        let k : s.tokens (base.chan + 3) ≡ replicate tokens credit =
        ch (base.chan + 3) (omega arith) (omega arith) ∙ first_k in
        let n = ow base.proc (omega arith) (omega arith) in
        let r = ow (base.proc + 1) (omega arith) (omega arith) in
        let e : line Q s ++ map (over Q.meaning) (s.tokens (base.chan + 2)) ≡ [] =
        λ i. ((ap s.tokens fits.output ∙ d) i ++ (q.pending i ++ map (over Q.meaning) ((ap s.tokens fits.input ∙ b) i)))
        ++ map (over Q.meaning) (f i) in
        let v : view_of base Q s
        ≡ record {
          next = 0;
          least = 0;
          credits = tokens;
          held = [];
          ring = [];
          input = s.tokens base.input;
          output = s.tokens base.output;
        } =
        view_is s _ _ _ _ _ _ _ (ap (λ o. o.number) n) (ap (λ o. o.number) r)
        (ap length k ∙ length-replicate tokens credit) (ap (λ o. o.held) r) e refl refl in
        record {
          orderly =
              and_from _ _ q.orderly
              (kept_from _ tokens _
              (subst (λ z. Kept (laps_of units node Q) tokens z) (sym v)
              (none_kept (s.tokens base.input) (s.tokens base.output))));
          pending = ap (to_come (laps_of units node Q)) v;
          owed = (λ i. (Q.firings * length ((ap s.tokens fits.input ∙ b) i) + q.owed i)
              + (ring_due (turns_of units.tree node) Q.firings (e i) + ((Q.firings + 1) * length (f i) + length (r i).held)))
              ∙ omega arith;
        }

    -- DRAIN
    module _ (s : State) (h : (loop_over units node tokens base Q).orderly s ≡ true)
        (quiet : (p : ℕ) → IsInside (loop_over units node tokens base Q) p → can_fire units.tree net s p ≡ false)
        (untrapped : has_trap s.emitted ≡ false) (room : has_room net s base.output ≡ true)
        (rooms : HaveRoom net base.chan 4) where
      body_orderly : Q.orderly s ≡ true
      body_orderly = (and_parts _ _ h).0

      kept : Kept (laps_of units node Q) tokens (view_of base Q s)
      kept = kept_to (laps_of units node Q) tokens (view_of base Q s) (and_parts _ _ h).1

      all_bag : length (bag (laps_of units node Q) (view_of base Q s))
          ≡ length (s.own (base.proc + 1)).held
          + ((length (s.tokens (base.chan + 1)) + (length (Q.pending s) + length (s.tokens base.chan)))
          + length (s.tokens (base.chan + 2)))
      all_bag = bag_length (view_of base Q s) ∙ ap (λ z. length (s.own (base.proc + 1)).held + z) (ring_length s)

      or_false : (x y : Bool) → (x || y) ≡ false → (x ≡ false) × (y ≡ false)
      or_false true y e = cc
      or_false false y e = (refl, e)

      tail_cannot : (releases s || (has_first (s.tokens (base.chan + 1)) && has_room net s (base.chan + 2))) ≡ false
      unfolding row_can can_release head.can tail.can
      tail_cannot =
          cannot_at net units s (base.proc + 1) (tail_proc node base) tail_stands untrapped
          (quiet (base.proc + 1) (record { from = omega arith; to = omega (arith, fits.proc, fits.lawful.procs) }))

      head_cannot : (has_room net s base.chan
          && (has_first (s.tokens (base.chan + 2))
          || (has_first (s.tokens base.input) && has_first (s.tokens (base.chan + 3))))) ≡ false
      unfolding row_can head.can tail.can
      head_cannot =
          cannot_at net units s base.proc (head_proc node base) head_stands untrapped
          (quiet base.proc (record { from = le_refl _; to = omega (arith, fits.proc, fits.lawful.procs) }))

      room_at : (c n : ℕ) → (chan_at net c).cap ≡ n → length (s.tokens c) < n → has_room net s c ≡ true
      unfolding has_room
      room_at c n e l = lt-ltb _ _ (omega (arith, e, l))

      none_ready : has_number (s.own (base.proc + 1)).number (s.own (base.proc + 1)).held ≡ false
      none_ready =
          elim (cases_Bool (has_number (s.own (base.proc + 1)).number (s.own (base.proc + 1)).held)) [
            | inl e ↦
                let n = dropped_length s kept e in
                let r = room_at (base.chan + 3) tokens cap_k (omega (arith, kept.credits, all_bag, n)) in
                let x : true ≡ false = sym (and_from _ _ e (and_from _ _ room r)) ∙ (or_false _ _ tail_cannot).0 in cc
            | inr e ↦ e
          ]

      no_d : s.tokens (base.chan + 1) ≡ []
      no_d =
          elim (cases_Bool (has_first (s.tokens (base.chan + 1)))) [
            | inl e ↦ elim (cases_lt (length (s.tokens (base.chan + 2))) tokens) [
              | inl l ↦ let x : true ≡ false =
                  sym (and_from _ _ e (room_at (base.chan + 2) tokens cap_f l)) ∙ (or_false _ _ tail_cannot).1 in cc
              | inr l ↦ let n = ap length (front (s.tokens (base.chan + 1)) e) in
                  absurd (omega (arith, kept.credits, all_bag, n, l))
            ]
            | inr e ↦ emptied _ e
          ]

      body_drained : IsDrained Q s
      body_drained =
          fits.lawful.drain s body_orderly
          (λ p i. quiet p (record { from = omega (arith, i.from, fits.proc); to = i.to })) untrapped
          (room_when_empty net s Q.output (ap s.tokens fits.output ∙ no_d)
          (subst (λ z. 0 < (chan_at net z).cap) (sym fits.output)
          (rooms.room (base.chan + 1) (omega arith) (omega arith))))

      no_b : s.tokens base.chan ≡ []
      no_b = ap s.tokens (sym fits.input) ∙ body_drained.input

      head_idle : (has_first (s.tokens (base.chan + 2))
          || (has_first (s.tokens base.input) && has_first (s.tokens (base.chan + 3)))) ≡ false
      head_idle =
          and_left_true _ _
          (room_when_empty net s base.chan no_b (rooms.room base.chan (omega arith) (omega arith))) head_cannot

      no_f : s.tokens (base.chan + 2) ≡ []
      no_f = emptied _ (or_false _ _ head_idle).0

      no_ring : line Q s ++ map (over Q.meaning) (s.tokens (base.chan + 2)) ≡ []
      unfolding line
      no_ring = λ i.
          ((ap s.tokens fits.output ∙ no_d) i
          ++ (body_drained.pending i ++ map (over Q.meaning) (body_drained.input i))) ++ map (over Q.meaning) (no_f i)

      held_bag : bag (laps_of units node Q) (view_of base Q s) ≡ map untagged (s.own (base.proc + 1)).held
      unfolding bag
      held_bag =
          ap (λ z. map untagged (s.own (base.proc + 1)).held ++ map (settled (laps_of units node Q)) z) no_ring
          ∙ append-nil _

      no_bag : bag (laps_of units node Q) (view_of base Q s) ≡ []
      no_bag =
          none_left _ (elim (cases_lt 0 (length (bag (laps_of units node Q) (view_of base Q s)))) [
            | inl l ↦
                let x : length (look (s.own (base.proc + 1)).number (bag (laps_of units node Q) (view_of base Q s))) ≡ 1 =
                kept.numbered.once (s.own (base.proc + 1)).number (le_refl _) (omega (arith, l)) in
                let y : length (look (s.own (base.proc + 1)).number (bag (laps_of units node Q) (view_of base Q s))) ≡ 0 =
                ap (λ z. length (look (s.own (base.proc + 1)).number z)) held_bag
                ∙ ap length (not_found _ _ none_ready) in
                absurd (omega (arith, x, y))
            | inr l ↦ omega (arith, l)
          ])

      no_input : s.tokens base.input ≡ []
      no_input =
          elim (cases_Bool (has_first (s.tokens (base.chan + 3)))) [
            | inl e ↦ emptied _ (and_right_true _ _ e (or_false _ _ head_idle).1)
            | inr e ↦
                let x = ap length (emptied _ e) in let y = ap length no_bag in
                let z = rooms.room (base.chan + 3) (omega arith) (omega arith) in
                absurd (omega (arith, x, y, z, cap_k, kept.credits))
          ]

      loop_drained : IsDrained (loop_over units node tokens base Q) s
      unfolding to_come read
      loop_drained =
          record { input = no_input; pending = ap (λ z. read z (s.own (base.proc + 1)).number (length z)) no_bag }

    -- SIZE
    own_inside : (s : State) →
        inside (loop_over units node tokens base Q) s
        ≡ (((length (s.tokens base.chan) + length (s.tokens (base.chan + 1)))
        + (length (s.tokens (base.chan + 2)) + length (s.own (base.proc + 1)).held)) + inside Q s)
        + (length (s.tokens (base.chan + 3)) + length (s.own base.proc).held)
    unfolding inside in_channels in_hands
    own_inside s =
        let a = channels_from s base.chan (base.chan + 4) Q.chan_to (omega arith)
        (omega (arith, fits.chan, fits.lawful.chans)) in
        let b = hands_from s base.proc (base.proc + 2) Q.proc_to (omega arith)
        (omega (arith, fits.proc, fits.lawful.procs)) in
        let c : (base.chan + 4) - base.chan ≡ 4 = omega arith in
        let d : (base.proc + 2) - base.proc ≡ 2 = omega arith in
        let e = ap (in_channels s base.chan) c in
        let f = ap (in_hands s base.proc) d in
        let g = ap (λ x. in_channels s x (Q.chan_to - x)) fits.chan in
        let h = ap (λ x. in_hands s x (Q.proc_to - x)) fits.proc in
        let t : (k : ℕ) (m : ℕ) → k ≡ m → length (s.tokens k) ≡ length (s.tokens m) = λ k m z.
        ap (λ x. length (s.tokens x)) z in
        let t1 = t (suc base.chan) (base.chan + 1) (omega arith) in
        let t2 = t (suc (suc base.chan)) (base.chan + 2) (omega arith) in
        let t3 = t (suc (suc (suc base.chan))) (base.chan + 3) (omega arith) in
        let o : length (s.own (suc base.proc)).held ≡ length (s.own (base.proc + 1)).held =
        ap (λ x. length (s.own x).held) (omega arith) in
        omega (arith, a, b, e, f, g, h, t1, t2, t3, o)

    loop_size : (s : State) → (loop_over units node tokens base Q).orderly s ≡ true →
        IsSized (loop_over units node tokens base Q) s
    unfolding due to_come
    loop_size s h =
        let a = and_parts _ _ h in
        let k = kept_to (laps_of units node Q) tokens (view_of base Q s) a.1 in
        let z = fits.lawful.size s a.0 in
        let i = own_inside s in
        let b = ap (λ x. Q.firings * length (s.tokens x)) fits.input in
        let r = ring_bound (turns_of units.tree node) Q.firings
        (line Q s ++ map (over Q.meaning) (s.tokens (base.chan + 2))) k.turns in
        let rl = ap (λ x. ((turns_of units.tree node - 1) * (Q.firings + 2) + 2) * x) (ring_length s) in
        let l = bag_length (view_of base Q s) in
        let n = ring_length s in
        let t = all_bound ((turns_of units.tree node - 1) * (Q.firings + 2) + 2) Q.firings (length (s.tokens base.chan))
        (length (s.tokens (base.chan + 1))) (length (s.tokens (base.chan + 2))) (length (s.own (base.proc + 1)).held)
        (inside Q s) (length (Q.pending s)) (Q.owed s) (inside (loop_over units node tokens base Q) s) z.owed z.pending
        (omega (arith, i)) in
        let f : loop_firings (turns_of units.tree node) Q.firings
        ≡ ((turns_of units.tree node - 1) * (Q.firings + 2) + 2) + (Q.firings + 1) = omega arith in
        let g = ap (λ x. x * inside (loop_over units node tokens base Q) s) f in
        record {
          owed = omega (arith, b, r, rl, t, g);
          pending =
              omega (
                arith,
                read_length (bag (laps_of units node Q) (view_of base Q s)) (s.own (base.proc + 1)).number
                    k.numbered,
                l,
                n,
                i,
                z.pending,
              );
        }

    loop_law : HaveRoom net base.chan 4 → IsLawfulPart net units (loop_over units node tokens base Q)
    loop_law rooms = record {
      procs = omega (arith, fits.proc, fits.lawful.procs);
      chans = omega (arith, fits.chan, fits.lawful.chans);
      reads = loop_reads;
      begins = loop_begins;
      moves = loop_moves;
      step = λ s t p i way h.
          let a = and_parts _ _ h in
          let k = kept_to (laps_of units node Q) tokens (view_of base Q s) a.1 in
          let r = loop_step s t p i way a.0 k in
          record {
            orderly = and_from _ _ r.body (kept_from _ tokens _ r.right.goes.kept);
            line = loop_line t ∙ r.right.goes.line ∙ sym (loop_line s);
          };
      work = λ s t p i way h.
          let a = and_parts _ _ h in
          (loop_step s t p i way a.0 (kept_to (laps_of units node Q) tokens (view_of base Q s) a.1)).right.work;
      size = loop_size;
      drain = λ s h quiet untrapped room. loop_drained s h quiet untrapped room rooms;
    }

module _ (net : Net) (units : Units) (roles : ℕ → Role) (node tokens : ℕ) (base : Base) where
  loop_all : (Ps : List Part) → IsPlaced net units roles (loop_shape node tokens) base Ps →
      IsLawfulPart net units (loop_over units node tokens base (get_or Ps 0 no_part))
  unfolding AreChained
  loop_all [] placed = absurd placed.inner
  loop_all (Q ∷ []) placed =
      loop_law net units roles node tokens base Q placed.good.input placed.good.output placed.good.apart placed.procs
      placed.inner.0 placed.cap placed.laid placed.chans
  loop_all (Q ∷ (R ∷ Rs)) placed = absurd placed.inner.1

  loop_lies : (Ps : List Part) → IsPlaced net units roles (loop_shape node tokens) base Ps →
      LiesAt (loop_shape node tokens) units roles base Ps (loop_over units node tokens base (get_or Ps 0 no_part))
  unfolding AreChained proc_end chan_end
  loop_lies [] placed = absurd placed.inner
  loop_lies (Q ∷ []) placed =
      let f : IsSlot net units roles (base.proc + 2) (base.chan + 4)
      (record { input = base.chan; output = base.chan + 1; part = 0 }) Q = placed.inner.0 in
      record {
        meaning =
            ap (λ m. rounds
            (record { body = m; test = test_of units.tree units.leaf node; spent = spent_of units.tree node; turns = turns_of units.tree node })) f.meaning;
        firings = ap (loop_firings (turns_of units.tree node)) f.firings;
        input = refl;
        output = refl;
        proc_from = refl;
        chan_from = refl;
        proc_to = refl;
        chan_to = refl;
      }
  loop_lies (Q ∷ (R ∷ Rs)) placed = absurd placed.inner.1

loop_rooms : (tokens cap k : ℕ) → 0 < tokens → 0 < cap → k < 4 →
    0 < (get_or
    (empty_chan cap ∷ (empty_chan cap ∷ (empty_chan tokens ∷ (record { cap = tokens; credits = tokens } ∷ [])))) k no_chan).cap
loop_rooms tokens cap zero t h l = h
loop_rooms tokens cap (suc zero) t h l = h
loop_rooms tokens cap (suc (suc zero)) t h l = t
loop_rooms tokens cap (suc (suc (suc zero))) t h l = t
loop_rooms tokens cap (suc (suc (suc (suc k)))) t h l = absurd (omega arith)

loop_ports : (base : Base) (v : ℕ) → v < 1 →
    IsGoodSlot base 4 (get_or (record { input = base.chan; output = base.chan + 1; part = 0 } ∷ []) v no_slot)
loop_ports base zero l =
    record { input = omega arith; output = omega arith; apart = λ e. omega (arith, e); out = inr (omega arith) }
loop_ports base (suc v) l = absurd (omega arith)

pub loop_lawful : (node tokens : ℕ) → 0 < tokens → IsLawfulShape (loop_shape node tokens)
loop_lawful node tokens t = record {
  lawful = λ net units roles base parts placed. loop_all net units roles node tokens base parts placed;
  lies = λ net units roles base parts placed. loop_lies net units roles node tokens base parts placed;
  count = λ base. refl;
  laid = λ cap base. refl;
  rooms = λ cap base k h l. loop_rooms tokens cap k t h l;
  slots = λ net base good v l. loop_ports base v l;
}
