-- The invariants of the net of one unit: the outcomes of its tokens, and the firings that they still need.
use Rattle.std.proofs.Common.{◌≡◌, ℕ, ℤ, zero, suc, ◌+◌, ◌*◌, ◌<◌, true, false, ◌&&◌, List, [], ◌∷◌, ◌++◌, length, map, refl, sym, ap, ap₂, ◌∙◌, subst, arith, append_assoc, length-append}
use Rattle.std.proofs.lemmas.Bool.{and_parts}
use Rattle.std.proofs.lemmas.List.{map-append}
use Rattle.p3l_base.specs.declared.outcome.Outcome.{Outcome}
use Rattle.p3l_base.specs.declared.outcome.Outcome.TheVariants.{Value}
use Rattle.p3l_skel.specs.declared.tree.Form.TheVariants.{Seq}
use Rattle.p3l_skel.specs.declared.tree.Tree.{Tree}
use Rattle.p3l_skel.specs.Tree.{node_at, nesting}
use Rattle.p3l_skel.specs.Counts.{count_of}
use Rattle.p3l_skel.specs.Numbers.{firings, firings_by, firings_row, joined_firings, inner_sum}
use Rattle.p3l_skel.proofs.Below.{firings_by-step}
use Rattle.p3l_skel.specs.Item.{item}
use Rattle.p3l_ready.specs.At.{at}
use Rattle.p3l_ready.proofs.AtLemmas.{at-same, at-other}
use Rattle.p3l_firing.specs.declared.net.Net.{Net}
use Rattle.p3l_firing.specs.declared.token.Token.{Token}
use Rattle.p3l_firing.specs.Lists.{has_first, first_or, rest_of}
use Rattle.p3l_firing.specs.Token.{plain, credit, over, has_trap}
use Rattle.p3l_firing.specs.Nodes.{Leaf, outcome_of}
use Rattle.p3l_firing.specs.State.{State, front, push, pop, has_room, first_state, at_first}
use Rattle.p3l_firing.specs.Fire.{row_can, row_fire, is_ready, fire, IsStuck}
use Rattle.p3l_firing.specs.Ways.{MayFire}
use Rattle.p3l_firing.specs.kinds.Source as source
use Rattle.p3l_firing.specs.kinds.Sink as sink
use Rattle.p3l_firing.specs.kinds.Run as run
use Rattle.p3l_firing.specs.Single.{unit_net, the_source, the_sink, the_run}
use Rattle.p3l_firing.specs.NetInvariants.{Invariants, whole, Keeps, IsDrained, HasInvariants}
use Rattle.p3l_firing.proofs.OutcomesLaw.{emit_more}
use Rattle.p3l_firing.proofs.Rows.{front_split, no_first, moved-in, moved-out, ready_at, fire_at, not_ready, and_right_true, room_when_empty}
use Rattle.p3l_firing.proofs.WaysLaw.{one_way, sink_is_calm, no_way, strict_source, strict_sink, strict_run}

-- the outcomes of tokens
abbrev outcomes_of : List Token → List Outcome
outcomes_of = map (λ (token : Token). token.body)

-- the outcomes emitted, then those of the tokens after the run, then those to come: the root's of the tokens before the run and
-- of the items not yet sent
unfoldable all_outcomes : Tree → Leaf → State → List Outcome
all_outcomes tree leaf s =
    s.emitted
    ++ (outcomes_of (s.tokens 1)
    ++ (map (outcome_of tree leaf 0) (outcomes_of (s.tokens 0)) ++ map (item tree leaf 0) s.unsent))

-- the three firings
unfoldable sends : State → State
sends s = record (push s 0 (plain (Value (first_or [] s.unsent)))) { unsent = rest_of s.unsent; sent = s.sent + 1 }

unfoldable takes : State → State
takes s = record (pop s 1) { emitted = s.emitted ++ (front s 1).body ∷ [] }

module _ (tree : Tree) (leaf : Leaf) where
  unfoldable applies : State → State
  applies s = push (pop s 0) 1 (over (outcome_of tree leaf 0) (front s 0))

  send_outcomes : (s : State) → has_first s.unsent ≡ true → all_outcomes tree leaf (sends s) ≡ all_outcomes tree leaf s
  unfolding all_outcomes sends push
  send_outcomes s full =
      let f = outcome_of tree leaf 0 in
      let x : List ℤ = first_or [] s.unsent in
      let before : at s.tokens 0 (s.tokens 0 ++ plain (Value x) ∷ []) 0 ≡ s.tokens 0 ++ plain (Value x) ∷ [] = at-same s.tokens 0 _ in
      let after : at s.tokens 0 (s.tokens 0 ++ plain (Value x) ∷ []) 1 ≡ s.tokens 1 = at-other s.tokens 0 _ 1 (λ e. omega (arith, e)) in
      let split : map f (outcomes_of (s.tokens 0 ++ plain (Value x) ∷ [])) ≡ map f (outcomes_of (s.tokens 0)) ++ item tree leaf 0 x ∷ [] =
      ap (map f) (map-append (λ (t : Token). t.body) (s.tokens 0) (plain (Value x) ∷ [])) ∙ map-append f (outcomes_of (s.tokens 0)) (Value x ∷ []) in
      ap₂ (λ b a. s.emitted ++ (outcomes_of b ++ (map f (outcomes_of a) ++ map (item tree leaf 0) (rest_of s.unsent)))) after before
      ∙ ap (λ z. s.emitted ++ (outcomes_of (s.tokens 1) ++ z))
      (ap (λ z. z ++ map (item tree leaf 0) (rest_of s.unsent)) split
      ∙ append_assoc (map f (outcomes_of (s.tokens 0))) (item tree leaf 0 x ∷ []) _
      ∙ ap (λ u. map f (outcomes_of (s.tokens 0)) ++ map (item tree leaf 0) u) (sym (front_split [] s.unsent full)))

  take_outcomes : (s : State) → has_first (s.tokens 1) ≡ true → all_outcomes tree leaf (takes s) ≡ all_outcomes tree leaf s
  unfolding all_outcomes takes pop
  take_outcomes s full =
      let f = outcome_of tree leaf 0 in
      let after : at s.tokens 1 (rest_of (s.tokens 1)) 1 ≡ rest_of (s.tokens 1) = at-same s.tokens 1 _ in
      let before : at s.tokens 1 (rest_of (s.tokens 1)) 0 ≡ s.tokens 0 = at-other s.tokens 1 _ 0 (λ e. omega (arith, e)) in
      ap₂ (λ b a. (s.emitted ++ (front s 1).body ∷ []) ++ (outcomes_of b ++ (map f (outcomes_of a) ++ map (item tree leaf 0) s.unsent))) after before
      ∙ append_assoc s.emitted ((front s 1).body ∷ []) _
      ∙ ap (λ ts. s.emitted ++ (outcomes_of ts ++ (map f (outcomes_of (s.tokens 0)) ++ map (item tree leaf 0) s.unsent))) (sym (front_split credit (s.tokens 1) full))

  apply_outcomes : (s : State) → has_first (s.tokens 0) ≡ true → all_outcomes tree leaf (applies s) ≡ all_outcomes tree leaf s
  unfolding all_outcomes applies push pop
  apply_outcomes s full =
      let f = outcome_of tree leaf 0 in
      let t : Token = front s 0 in
      let u : List Outcome = map (item tree leaf 0) s.unsent in
      let before = moved-in s 0 1 (over f t) (λ e. omega (arith, e)) in
      let after = moved-out s 0 1 (over f t) (λ e. omega (arith, e)) in
      ap₂ (λ b a. s.emitted ++ (outcomes_of b ++ (map f (outcomes_of a) ++ u))) after before
      ∙ ap (λ z. s.emitted ++ z)
      (ap (λ z. z ++ (map f (outcomes_of (rest_of (s.tokens 0))) ++ u)) (map-append (λ (x : Token). x.body) (s.tokens 1) (over f t ∷ []))
      ∙ append_assoc (outcomes_of (s.tokens 1)) (f t.body ∷ []) _
      ∙ ap (λ ts. outcomes_of (s.tokens 1) ++ (map f (outcomes_of ts) ++ u)) (sym (front_split credit (s.tokens 0) full)))

  -- a process that can fire in the net of one unit is one of the three
  module _ (cap : ℕ) (s : State) where
    abbrev net : Net
    net = unit_net cap

    source_ready : is_ready tree net s 0 ≡ (has_first s.unsent && has_room net s 0)
    unfolding row_can source.can
    source_ready = ready_at tree net s 0 the_source refl

    sink_ready : is_ready tree net s 1 ≡ has_first (s.tokens 1)
    unfolding row_can sink.can
    sink_ready = ready_at tree net s 1 the_sink refl

    run_ready : is_ready tree net s 2 ≡ (has_first (s.tokens 0) && has_room net s 1)
    unfolding row_can run.can
    run_ready = ready_at tree net s 2 the_run refl

    source_fires : fire tree leaf net s 0 ≡ sends s
    unfolding row_fire source.fire sends
    source_fires = fire_at tree net s 0 the_source refl leaf

    sink_fires : fire tree leaf net s 1 ≡ takes s
    unfolding row_fire sink.fire takes
    sink_fires = fire_at tree net s 1 the_sink refl leaf

    run_fires : fire tree leaf net s 2 ≡ applies s
    unfolding row_fire run.fire applies
    run_fires = fire_at tree net s 2 the_run refl leaf

abbrev pub unit_invariants : Tree → Leaf → Invariants
unit_invariants tree leaf =
    record {
      orderly = λ s. true;
      to_come = λ s. outcomes_of (s.tokens 1) ++ map (outcome_of tree leaf 0) (outcomes_of (s.tokens 0));
      owed = λ s. 2 * length (s.tokens 0) + length (s.tokens 1);
    }

module _ (tree : Tree) (leaf : Leaf) (cap : ℕ) where
  all_is : (s : State) → whole (unit_invariants tree leaf) (item tree leaf 0) s ≡ all_outcomes tree leaf s
  unfolding whole all_outcomes
  all_is s = ap (λ z. s.emitted ++ z) (append_assoc (outcomes_of (s.tokens 1)) _ _)

  same : (s t : State) → all_outcomes tree leaf t ≡ all_outcomes tree leaf s → whole (unit_invariants tree leaf) (item tree leaf 0) t ≡ whole (unit_invariants tree leaf) (item tree leaf 0) s
  same s t e = all_is t ∙ e ∙ sym (all_is s)

  Kept : State → State → Type 0
  Kept s t = Keeps (unit_invariants tree leaf) (item tree leaf 0) 3 s t

  sent : (s : State) → has_first s.unsent ≡ true → Kept s (sends s)
  unfolding Kept sends push
  sent s full =
      let before : length (at s.tokens 0 (s.tokens 0 ++ plain (Value (first_or [] s.unsent)) ∷ []) 0) ≡ length (s.tokens 0) + 1 = ap length (at-same s.tokens 0 _) ∙ length-append (s.tokens 0) _ in
      let after : length (at s.tokens 0 (s.tokens 0 ++ plain (Value (first_or [] s.unsent)) ∷ []) 1) ≡ length (s.tokens 1) = ap length (at-other s.tokens 0 _ 1 (λ e. omega (arith, e))) in
      let one_less : length s.unsent ≡ suc (length (rest_of s.unsent)) = ap length (front_split [] s.unsent full) in
      record { orderly = refl; same = same s (sends s) (send_outcomes tree leaf s full); emitted = λ e. e; items = omega arith; work = omega arith }

  taken : (s : State) → has_trap s.emitted ≡ false → has_first (s.tokens 1) ≡ true → Kept s (takes s)
  unfolding Kept takes pop
  taken s untrapped full =
      let before : length (at s.tokens 1 (rest_of (s.tokens 1)) 0) ≡ length (s.tokens 0) = ap length (at-other s.tokens 1 _ 0 (λ e. omega (arith, e))) in
      let after : suc (length (at s.tokens 1 (rest_of (s.tokens 1)) 1)) ≡ length (s.tokens 1) = ap (λ ts. suc (length ts)) (at-same s.tokens 1 _) ∙ sym (ap length (front_split credit (s.tokens 1) full)) in
      record { orderly = refl; same = same s (takes s) (take_outcomes tree leaf s full); emitted = λ e. emit_more s.emitted (front s 1).body untrapped; items = refl; work = omega arith }

  applied : (s : State) → has_first (s.tokens 0) ≡ true → Kept s (applies tree leaf s)
  unfolding Kept applies push pop
  applied s full =
      let t : Token = over (outcome_of tree leaf 0) (front s 0) in
      let popped : ℕ → List Token = at s.tokens 0 (rest_of (s.tokens 0)) in
      let before : suc (length (at popped 1 (popped 1 ++ t ∷ []) 0)) ≡ length (s.tokens 0) = ap (λ ts. suc (length ts)) (moved-in s 0 1 t (λ e. omega (arith, e))) ∙ sym (ap length (front_split credit (s.tokens 0) full)) in
      let after : length (at popped 1 (popped 1 ++ t ∷ []) 1) ≡ length (s.tokens 1) + 1 = ap length (moved-out s 0 1 t (λ e. omega (arith, e))) ∙ length-append (s.tokens 1) _ in
      record { orderly = refl; same = same s (applies tree leaf s) (apply_outcomes tree leaf s full); emitted = λ e. e; items = refl; work = omega arith }

  step : (s t : State) (p : ℕ) → MayFire tree leaf (unit_net cap) s p t → Kept s t
  step s t zero way =
      let w = one_way tree leaf (unit_net cap) s t 0 the_source refl strict_source way in
      subst (Kept s) (sym (w.1 ∙ source_fires tree leaf cap s)) (sent s (and_parts _ _ (sym (source_ready tree leaf cap s) ∙ w.0)).0)
  step s t (suc zero) way =
      let w = one_way tree leaf (unit_net cap) s t 1 the_sink refl strict_sink way in
      let untrapped = sink_is_calm tree leaf (unit_net cap) s t 1 the_sink refl refl way in
      subst (Kept s) (sym (w.1 ∙ sink_fires tree leaf cap s)) (taken s untrapped (sym (sink_ready tree leaf cap s) ∙ w.0))
  step s t (suc (suc zero)) way =
      let w = one_way tree leaf (unit_net cap) s t 2 the_run refl strict_run way in
      subst (Kept s) (sym (w.1 ∙ run_fires tree leaf cap s)) (applied s (and_parts _ _ (sym (run_ready tree leaf cap s) ∙ w.0)).0)
  step s t (suc (suc (suc p))) way = absurd (no_way tree leaf (unit_net cap) _ s (suc (suc (suc p))) t refl way)

  module _ (room : 0 < cap) (s : State) (untrapped : has_trap s.emitted ≡ false) (stuck : IsStuck tree (unit_net cap) s) where
    idle_at : (p : ℕ) → is_ready tree (unit_net cap) s p ≡ false
    idle_at p = not_ready tree (unit_net cap) s p untrapped (stuck p)

    after_empty : s.tokens 1 ≡ []
    after_empty = no_first _ (sym (sink_ready tree leaf cap s) ∙ idle_at 1)

    before_empty : s.tokens 0 ≡ []
    before_empty = no_first _ (and_right_true _ _ (room_when_empty (unit_net cap) s 1 after_empty room) (sym (run_ready tree leaf cap s) ∙ idle_at 2))

    none_unsent : s.unsent ≡ []
    none_unsent = no_first _ (and_right_true _ _ (room_when_empty (unit_net cap) s 0 before_empty room) (sym (source_ready tree leaf cap s) ∙ idle_at 0))

    all_drained : IsDrained (unit_invariants tree leaf) s
    all_drained = record { unsent = none_unsent; to_come = ap₂ (λ b a. outcomes_of b ++ map (outcome_of tree leaf 0) (outcomes_of a)) after_empty before_empty }

  three_have_invariants : 0 < cap → HasInvariants tree leaf (unit_net cap) 3 (unit_invariants tree leaf)
  unfolding Kept first_state at_first
  three_have_invariants room = record {
    begins = λ items long. record { orderly = refl; to_come = refl; owed = refl };
    step = λ s t p way orderly. step s t p way;
    drained = λ s orderly untrapped stuck. all_drained room s untrapped stuck;
  }

  -- a tree of one `seq` node fires three times for an item
  three_firings : (counts : List ℕ) → (node_at tree 0).form ≡ Seq → firings tree counts ≡ 3
  three_firings counts form =
      let below : ℕ = inner_sum tree (firings_by joined_firings tree (count_of tree counts) 5) 0 in
      ap (λ n. n + 2)
      (firings_by-step joined_firings tree (count_of tree counts) nesting 0 (omega arith)
      ∙ ap (λ f. firings_row joined_firings f (count_of tree counts 0) below) form)

  pub unit_has_invariants : (counts : List ℕ) → 0 < cap → (node_at tree 0).form ≡ Seq → HasInvariants tree leaf (unit_net cap) (firings tree counts) (unit_invariants tree leaf)
  unit_has_invariants counts room form =
      subst (λ n. HasInvariants tree leaf (unit_net cap) n (unit_invariants tree leaf)) (sym (three_firings counts form)) (three_have_invariants room)
