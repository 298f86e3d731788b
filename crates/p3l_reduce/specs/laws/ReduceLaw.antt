-- THE LAW OF THE REDUCE (`reduce_lawful`): a tree of joins over any power of two of segments, and Run for one segment.
-- The line is the flow of place 1: every firing of Split, of a fold and of a join keeps it, and what is owed falls.
-- The states of the rows are read as steps between views; no two subtrees are ever compared.
use Rattle.std.proofs.Common.{◌≡◌, ℕ, zero, suc, ◌+◌, ◌-◌, ◌*◌, ◌^◌, ◌≤◌, ◌<◌, ◌≢◌, ◌⊎◌, inl, inr, ◌&&◌, cond, nat_lt, Bool, true, false, List, [], ◌∷◌, ◌++◌, map, length, get_or, refl, sym, ap, ap₂, ◌∙◌, subst, arith, append_assoc, length-append, lt-ltb, ltb-true, le_refl, slice_get, Some, le-ltb}
use Rattle.std.proofs.Math.Nat.{pow-succ'}
use Rattle.std.proofs.lemmas.Bool.{cases_Bool, and_parts, and_from, cases_eq, cases_lt, cond-true, cond-false}
use Rattle.std.proofs.lemmas.List.{length-replicate}
use Rattle.std.proofs.lemmas.Nat.{pow_pos}
use Rattle.p3l_firing.specs.Fire.{row_can, row_fire, is_ready, can_fire, fire}
use Rattle.p3l_firing.specs.Ways.{MayFire, IsStrict}
use Rattle.p3l_firing.proofs.WaysLaw.{strict_split, strict_join, strict_run}
use Rattle.p3l_firing.specs.Lists.{rest_of, first_or, has_first}
use Rattle.p3l_firing.specs.State.{State, pop, push, set_own, fresh, has_room, at_first, chan_at}
use Rattle.p3l_firing.specs.Token.{over, has_trap, credit}
use Rattle.p3l_firing.specs.declared.net.Net.{Net}
use Rattle.p3l_firing.specs.declared.process.Proc.{Proc}
use Rattle.p3l_firing.specs.declared.token.Token.{Token}
use Rattle.p3l_firing.specs.kinds.Join.{paired_by}
use Rattle.p3l_firing.specs.kinds.Split.{after_segment}
use Rattle.p3l_reduce.specs.JoinTree.{Folding, View, joined, unsent, after_node, flow, split_ok, well_kept, left_flows, to_send, owed_in, inside_in}
use Rattle.p3l_firing.specs.Segments.{halved, segment_lengths}
use Rattle.p3l_reduce.specs.Reduce.{seg, tee_by, tee, split_proc, join_proc, fold_proc, join_procs, fold_procs, folding_of, view_of, tree_part, tree_shape, reduce_shape}
use Rattle.p3l_reduce.specs.laws.Heap.{Deep, Below, deep_from, reach, join_count, join_count_is}
use Rattle.p3l_reduce.specs.laws.JoinView.{after_same, even_same, left_same, Joins, join_flow, join_even, join_works, Takes, take_after, take_even, take_left, Sends, send_leaf, Folds, fold_leaf, Stuck, all_dry, empty_after, empty_even, empty_left}
use Rattle.p3l_reduce.specs.laws.SizeLaw.{held_few, come_few, owed_few}
use Rattle.p3l_template.specs.Part.{Part, IsLawfulPart, line, IsInside, IsSameInside, IsAlike, Moves, Keeps, IsFresh, Begins, IsDrained, due, IsSized, in_hands, inside, in_channels}
use Rattle.p3l_template.specs.Placed.{IsLawfulShape, LiesAt, IsPlaced, AreStanding, AreChained, proc_end, chan_end}
use Rattle.p3l_template.specs.Shape.{empty_chan, Role, Base, numbers_from}
use Rattle.p3l_template.specs.Sum.{sum_of}
use Rattle.p3l_template.specs.Units.{Units, outcome_at}
use Rattle.p3l_template.specs.laws.Inside.{channels_split, channels_sum, times_le}
use Rattle.p3l_template.specs.laws.Plain.{plain_empty, plain_room}
use Rattle.p3l_template.specs.laws.Row.{numbers_length, numbers_at, stands_split}
use Rattle.p3l_template.specs.laws.Rows.{and_left_true, and_right_true, front, fire_at, can_at, strict_at, cannot_at, emptied, room_when_empty}
use Rattle.p3l_template.specs.laws.RunLaw.{run_lawful}
use Rattle.p3l_template.specs.laws.SumLaw.{sum_same, sum_none, sum_change}
use Rattle.p3l_template.specs.laws.Touch.{pop_same, pop_other, push_same, push_other, set_tokens, own_same, own_other}
use Rattle.p3l_firing.specs.kinds.Run as run
use Rattle.p3l_firing.specs.kinds.Split as split
use Rattle.p3l_firing.specs.kinds.Join as join
use Rattle.p3l_firing.specs.Nodes.{segment_of, operator_of}

-- THE PLACES OF CHANNELS
pub tee_above : (output from q : ℕ) → 2 ≤ q → tee_by output from q ≡ from + (q - 2)
unfolding tee_by
tee_above output from zero h = absurd (omega arith)
tee_above output from (suc zero) h = absurd (omega arith)
tee_above output from (suc (suc q)) h = omega arith

tee_at : (base : Base) (m q : ℕ) → 1 < q → tee base m q ≡ base.chan + m + (q - 2)
tee_at base m q h = tee_above base.output (base.chan + m) q (omega (arith, h))

tee_top : (base : Base) (m : ℕ) → tee base m 1 ≡ base.output
unfolding tee_by
tee_top base m = refl

-- THE PLACES OF PROCESSES
pub joins_length : (node output from q n : ℕ) → length (join_procs node output from q n) ≡ n
unfolding join_procs
joins_length node output from q zero = refl
joins_length node output from q (suc n) = ap suc (joins_length node output from (suc q) n)

joins_stand : (net : Net) (node m : ℕ) (base : Base) (p q n i : ℕ) →
    AreStanding net p (join_procs node base.output (base.chan + m) q n) → i < n →
    slice_get net.procs (p + i) ≡ Some (join_proc node m base (q + i))
unfolding AreStanding join_procs
joins_stand net node m base p q zero i h l = absurd (omega arith)
joins_stand net node m base p q (suc n) zero h l =
    ap (slice_get net.procs) (omega arith) ∙ h.0 ∙ ap (λ z. Some (join_proc node m base z)) (omega arith)
joins_stand net node m base p q (suc n) (suc i) h l =
    ap (slice_get net.procs) (omega arith) ∙ joins_stand net node m base (suc p) (suc q) n i h.1 (omega arith)
    ∙ ap (λ z. Some (join_proc node m base z)) (omega arith)

folds_length : (node m : ℕ) (base : Base) (s : ℕ) (ls : List ℕ) →
    length (fold_procs node m base.output base.chan (base.chan + m) s ls) ≡ length ls
unfolding fold_procs
folds_length node m base s [] = refl
folds_length node m base s (l ∷ ls) = ap suc (folds_length node m base (suc s) ls)

folds_stand : (net : Net) (node m : ℕ) (base : Base) (p s : ℕ) (ls : List ℕ) (i : ℕ) →
    AreStanding net p (fold_procs node m base.output base.chan (base.chan + m) s ls) → i < length ls →
    slice_get net.procs (p + i) ≡ Some (fold_proc node m base (s + i) (get_or ls i 0))
unfolding AreStanding fold_procs
folds_stand net node m base p s [] i h l = absurd (omega arith)
folds_stand net node m base p s (x ∷ xs) zero h l =
    ap (slice_get net.procs) (omega arith) ∙ h.0 ∙ ap (λ z. Some (fold_proc node m base z x)) (omega arith)
folds_stand net node m base p s (x ∷ xs) (suc i) h l =
    ap (slice_get net.procs) (omega arith) ∙ folds_stand net node m base (suc p) (suc s) xs i h.1 (omega arith)
    ∙ ap (λ z. Some (fold_proc node m base z (get_or xs i 0))) (omega arith)

halved_length : (ls : List ℕ) → length (halved ls) ≡ 2 * length ls
unfolding halved
halved_length [] = refl
halved_length (l ∷ ls) = omega (arith, halved_length ls)

pub lengths_length : (level len : ℕ) → length (segment_lengths level len) ≡ 2 ^ level
unfolding segment_lengths
lengths_length zero len = refl
lengths_length (suc level) len =
    halved_length (segment_lengths level len) ∙ omega (arith, lengths_length level len, pow-succ' 2 level)

module _ (net : Net) (units : Units) (roles : ℕ → Role) (node m d len : ℕ) (power : m ≡ 2 ^ suc d) (base : Base)
    (Ps : List Part) (placed : IsPlaced net units roles (tree_shape node m d len) base Ps) where
  abbrev G : Folding
  G = folding_of units node m

  abbrev P : Part
  P = tree_part units node m d base

  abbrev seen : State → View
  seen s = view_of base m s

  several : 2 ≤ m
  several = let two : 2 ^ suc d ≡ 2 * 2 ^ d = pow-succ' 2 d in let some : 0 < 2 ^ d = pow_pos d in omega (arith, power)

  deep : Deep m (suc d) 1
  deep = deep_from m (suc d) 1 (omega arith) (omega (arith, power)) (omega (arith, power))

  under : (q : ℕ) → 0 < q → q < m + m → Below (suc d) 1 q
  under q pos low = let two : 2 ^ suc (suc d) ≡ 2 * 2 ^ suc d = pow-succ' 2 (suc d) in
      reach (suc d) q pos (omega (arith, power))

  joins_are : m ≡ suc (join_count (suc d))
  joins_are = power ∙ join_count_is (suc d)

  -- WHERE ITS PROCESSES ARE
  split_stands : slice_get net.procs base.proc ≡ Some (split_proc node m base)
  unfolding AreStanding
  split_stands = placed.procs.0

  both_stand : AreStanding net (suc base.proc)
      (join_procs node base.output (base.chan + m) 1 (m - 1))
      × AreStanding net (suc base.proc + length (join_procs node base.output (base.chan + m) 1 (m - 1)))
      (fold_procs node m base.output base.chan (base.chan + m) 0 (segment_lengths (suc d) len))
  unfolding AreStanding
  both_stand = stands_split net (suc base.proc) (join_procs node base.output (base.chan + m) 1 (m - 1)) _ placed.procs.1

  join_stands : (q : ℕ) → 0 < q → q < m → slice_get net.procs (base.proc + q) ≡ Some (join_proc node m base q)
  join_stands q pos low =
      ap (slice_get net.procs) (omega arith)
      ∙ joins_stand net node m base (suc base.proc) 1 (m - 1) (q - 1) both_stand.0 (omega arith)
      ∙ ap (λ z. Some (join_proc node m base z)) (omega arith)

  fold_stands : (u : ℕ) → u < m →
      slice_get net.procs (base.proc + m + u) ≡ Some (fold_proc node m base u (get_or (segment_lengths (suc d) len) u 0))
  fold_stands u low =
      ap (slice_get net.procs) (omega (arith, joins_length node base.output (base.chan + m) 1 (m - 1), several))
      ∙ folds_stand net node m base (suc base.proc + length (join_procs node base.output (base.chan + m) 1 (m - 1))) 0
      (segment_lengths (suc d) len) u both_stand.1 (omega (arith, lengths_length (suc d) len, power))
      ∙ ap (λ z. Some (fold_proc node m base z (get_or (segment_lengths (suc d) len) u 0))) (omega arith)

  -- WHERE ITS CHANNELS LIE
  tee_apart : (a b : ℕ) → 0 < a → 0 < b → a ≢ b → tee base m a ≢ tee base m b
  tee_apart a b ha hb n e =
      elim (cases_lt 1 a) [
        | inl x ↦ elim (cases_lt 1 b) [
          | inl y ↦ n (omega (arith, e, tee_at base m a x, tee_at base m b y))
          | inr y ↦ let o : tee base m b ≡ base.output = ap (tee base m) (omega arith) ∙ tee_top base m in
              omega (arith, e, o, tee_at base m a x, placed.good.output)
        ]
        | inr x ↦ elim (cases_lt 1 b) [
          | inl y ↦ let o : tee base m a ≡ base.output = ap (tee base m) (omega arith) ∙ tee_top base m in
              omega (arith, e, o, tee_at base m b y, placed.good.output)
          | inr y ↦ n (omega arith)
        ]
      ]

  tee_seg : (a u : ℕ) → 0 < a → u < m → tee base m a ≢ base.chan + u
  tee_seg a u ha l e =
      elim (cases_lt 1 a) [
        | inl x ↦ omega (arith, e, tee_at base m a x, l)
        | inr x ↦ let o : tee base m a ≡ base.output = ap (tee base m) (omega arith) ∙ tee_top base m in
            omega (arith, e, o, placed.good.output)
      ]

  tee_input : (a : ℕ) → 0 < a → tee base m a ≢ base.input
  tee_input a ha e =
      elim (cases_lt 1 a) [
        | inl x ↦ omega (arith, e, tee_at base m a x, placed.good.input)
        | inr x ↦ let o : tee base m a ≡ base.output = ap (tee base m) (omega arith) ∙ tee_top base m in
            placed.good.apart (sym e ∙ o)
      ]

  -- a channel outside is none of these
  not_tee : (c a : ℕ) → 0 < a → a < m + m → c ≢ base.output → (base.chan ≤ c → base.chan + (m + (m + m - 2)) ≤ c) →
      c ≢ tee base m a
  not_tee c a ha l o out e =
      elim (cases_lt 1 a) [
        | inl x ↦ omega (arith, e, out, tee_at base m a x, l)
        | inr x ↦ o (e ∙ ap (tee base m) (omega arith) ∙ tee_top base m)
      ]

  not_seg : (c u : ℕ) → u < m → (base.chan ≤ c → base.chan + (m + (m + m - 2)) ≤ c) → c ≢ base.chan + u
  not_seg c u l out e = omega (arith, e, out, several)

  roomy : (c : ℕ) → base.chan ≤ c → c < base.chan + (m + (m + m - 2)) → 0 < (chan_at net c).cap
  roomy c f l = placed.chans.room c f l

  -- THE LINE
  line_flow : (s : State) →
      line P s ≡ flow G (seen s) (suc d) 1 ++ map (over (joined G (suc d) 1)) (s.tokens base.input)
  unfolding line tee_by
  line_flow s = sym (append_assoc (s.tokens base.output) _ _)

  -- the segments' flows stay, and no T of a join's changes
  record Quiet (s t : State) : Type 0 where
    inner : (q : ℕ) → 1 < q → q < m → t.tokens (tee base m q) ≡ s.tokens (tee base m q)
    leafs : (q : ℕ) → 1 < q → m ≤ q → q < m + m → flow G (seen t) 0 q ≡ flow G (seen s) 0 q
    output : t.tokens base.output ≡ s.tokens base.output
    input : t.tokens base.input ≡ s.tokens base.input

  quiet_keeps : (s t : State) → Quiet s t → split_ok G (t.own base.proc).held (t.own base.proc).number ≡ true →
      P.orderly s ≡ true → Keeps P s t
  unfolding well_kept line
  quiet_keeps s t z k h = record {
    orderly = and_from _ _ (even_same G (seen s) (seen t) z.inner z.leafs (suc d) 1 deep ∙ (and_parts _ _ h).0) k;
    line = ap₂ (λ x y. x ++ y) z.output
        (ap₂ (λ x y. x ++ map (over (joined G (suc d) 1)) y)
        (after_same G (seen s) (seen t) z.inner z.leafs d 1 deep) z.input);
  }

  quiet_left : (s t : State) → Quiet s t → left_flows G (seen t) (suc d) 1 ≡ left_flows G (seen s) (suc d) 1
  quiet_left s t z = left_same G (seen s) (seen t) z.inner z.leafs (suc d) 1 deep

  abbrev seg_length : State → ℕ → ℕ
  seg_length s u = length (s.tokens (seg base u))

  -- A FOLD
  unfoldable fold_state : State → ℕ → State
  fold_state s u =
      push (pop s (base.chan + u)) (tee base m (m + u)) (over (outcome_at units node) (first_or credit (s.tokens (base.chan + u))))

  module _ (s : State) (u : ℕ) (low : u < m) where
    fold_fires : fire units.tree units.leaf net s (base.proc + m + u) ≡ fold_state s u
    unfolding row_fire fold_state run.fire split.fire join.fire split.segment_sent
    fold_fires =
        fire_at net units s (base.proc + m + u) (fold_proc node m base u (get_or (segment_lengths (suc d) len) u 0))
        (fold_stands u low)

    fold_full : is_ready units.tree net s (base.proc + m + u) ≡ true → has_first (s.tokens (base.chan + u)) ≡ true
    unfolding row_can run.can split.can join.can
    fold_full can =
        (and_parts _ _
        (can_at net units s (base.proc + m + u) (fold_proc node m base u (get_or (segment_lengths (suc d) len) u 0))
        (fold_stands u low) can)).0

    fold_other : (c : ℕ) → c ≢ base.chan + u → c ≢ tee base m (m + u) → (fold_state s u).tokens c ≡ s.tokens c
    unfolding fold_state
    fold_other c a b = push_other (pop s (base.chan + u)) (tee base m (m + u)) _ c b ∙ pop_other s (base.chan + u) c a

    fold_seg : (fold_state s u).tokens (base.chan + u) ≡ rest_of (s.tokens (base.chan + u))
    unfolding fold_state
    fold_seg =
        push_other (pop s (base.chan + u)) (tee base m (m + u)) _ _
        (λ e. tee_seg (m + u) u (omega (arith, several)) low (sym e)) ∙ pop_same s _

    fold_tee : (fold_state s u).tokens (tee base m (m + u)) ≡ s.tokens (tee base m (m + u)) ++ over (outcome_at units node)
        (first_or credit (s.tokens (base.chan + u))) ∷ []
    unfolding fold_state
    fold_tee =
        push_same (pop s (base.chan + u)) (tee base m (m + u)) _
        ∙ ap (λ z. z ++ over (outcome_at units node) (first_or credit (s.tokens (base.chan + u))) ∷ [])
        (pop_other s (base.chan + u) _ (tee_seg (m + u) u (omega (arith, several)) low))

    fold_own : (p : ℕ) → (fold_state s u).own p ≡ s.own p
    unfolding fold_state push pop
    fold_own p = refl

    fold_folds : has_first (s.tokens (base.chan + u)) ≡ true →
        Folds G (seen s) (seen (fold_state s u)) u (first_or credit (s.tokens (base.chan + u)))
    fold_folds full = record {
      tees = λ r b l n.
          fold_other (tee base m r) (tee_seg r u (omega arith) low)
          (tee_apart r (m + u) (omega arith) (omega (arith, several)) n);
      tee = fold_tee;
      segs = λ w l n.
          fold_other (base.chan + w) (λ e. n (omega (arith, e)))
          (λ e. tee_seg (m + u) w (omega (arith, several)) l (sym e));
      seg = front _ full ∙ ap (λ z. first_or credit (s.tokens (base.chan + u)) ∷ z) (sym fold_seg);
      sending = ap (λ o. o.held) (fold_own base.proc);
      sent = ap (λ o. o.number) (fold_own base.proc);
    }

    fold_moves : Moves P s (fold_state s u)
    unfolding fold_state push pop
    fold_moves = record {
      tokens = λ c i o out.
          fold_other c (not_seg c u low out) (not_tee c (m + u) (omega (arith, several)) (omega arith) o out);
      own = λ p out. fold_own p;
      unsent = refl;
      sent = refl;
      emitted = refl;
    }

    fold_quiet : has_first (s.tokens (base.chan + u)) ≡ true → Quiet s (fold_state s u)
    fold_quiet full = record {
      inner = λ q b l. (fold_folds full).tees q b (omega arith) (λ e. omega (arith, e, l));
      leafs = λ q b a l. fold_leaf G (seen s) (seen (fold_state s u)) u _ low (fold_folds full) q b a l;
      output =
          fold_other base.output (λ e. omega (arith, e, placed.good.output))
          (λ e. omega (arith, e, tee_at base m (m + u) (omega (arith, several)), placed.good.output));
      input = fold_other base.input (λ e. omega (arith, e, placed.good.input))
          (λ e. tee_input (m + u) (omega (arith, several)) (sym e));
    }

    fold_keeps : has_first (s.tokens (base.chan + u)) ≡ true → P.orderly s ≡ true → Keeps P s (fold_state s u)
    unfolding well_kept
    fold_keeps full h =
        quiet_keeps s (fold_state s u) (fold_quiet full)
        (ap (λ o. split_ok G o.held o.number) (fold_own base.proc) ∙ (and_parts _ _ h).1) h

    fold_works : has_first (s.tokens (base.chan + u)) ≡ true → due P (fold_state s u) < due P s
    unfolding due owed_in
    fold_works full =
        let z = fold_quiet full in
        let f = fold_folds full in
        let c = sum_change (seg_length s) (seg_length (fold_state s u)) m u low (λ w l n. ap length (f.segs w l n)) in
        let one : seg_length s u ≡ suc (seg_length (fold_state s u) u) = ap length f.seg in
        let i : 3 * m * length ((fold_state s u).tokens base.input) ≡ 3 * m * length (s.tokens base.input) =
        ap (λ x. 3 * m * length x) z.input in
        let t : to_send G ((fold_state s u).own base.proc).held ((fold_state s u).own base.proc).number
        ≡ to_send G (s.own base.proc).held (s.own base.proc).number =
        ap (λ o. to_send G o.held o.number) (fold_own base.proc) in
        let l = quiet_left s (fold_state s u) z in
        omega (arith, c, one, i, t, l)

  -- A JOIN
  unfoldable join_state : State → ℕ → State
  join_state s q =
      push (pop (pop s (tee base m (q + q))) (tee base m (suc (q + q)))) (tee base m q)
      (paired_by (operator_of units.tree units.leaf node) (first_or credit (s.tokens (tee base m (q + q))))
      (first_or credit (s.tokens (tee base m (suc (q + q))))))

  module _ (s : State) (q : ℕ) (pos : 0 < q) (low : q < m) where
    join_fires : fire units.tree units.leaf net s (base.proc + q) ≡ join_state s q
    unfolding row_fire join_state run.fire split.fire join.fire split.segment_sent
    join_fires = fire_at net units s (base.proc + q) (join_proc node m base q) (join_stands q pos low)

    join_full : is_ready units.tree net s (base.proc + q) ≡ true →
        (has_first (s.tokens (tee base m (q + q))) ≡ true) × (has_first (s.tokens (tee base m (suc (q + q)))) ≡ true)
    unfolding row_can run.can split.can join.can
    join_full can =
        let a = and_parts _ _
        (can_at net units s (base.proc + q) (join_proc node m base q) (join_stands q pos low) can) in
        (a.0, (and_parts _ _ a.1).0)

    left_right : tee base m (suc (q + q)) ≢ tee base m (q + q)
    left_right = tee_apart (suc (q + q)) (q + q) (omega arith) (omega arith) (λ e. omega (arith, e))

    left_here : tee base m (q + q) ≢ tee base m q
    left_here = tee_apart (q + q) q (omega arith) pos (λ e. omega (arith, e, pos))

    right_here : tee base m (suc (q + q)) ≢ tee base m q
    right_here = tee_apart (suc (q + q)) q (omega arith) pos (λ e. omega (arith, e, pos))

    join_other : (c : ℕ) → c ≢ tee base m q → c ≢ tee base m (q + q) → c ≢ tee base m (suc (q + q)) →
        (join_state s q).tokens c ≡ s.tokens c
    unfolding join_state
    join_other c a b e =
        push_other _ (tee base m q) _ c a ∙ pop_other (pop s (tee base m (q + q))) _ c e ∙ pop_other s _ c b

    join_left : (join_state s q).tokens (tee base m (q + q)) ≡ rest_of (s.tokens (tee base m (q + q)))
    unfolding join_state
    join_left =
        push_other _ (tee base m q) _ _ left_here ∙ pop_other (pop s (tee base m (q + q))) _ _ (λ e. left_right (sym e))
        ∙ pop_same s _

    join_right : (join_state s q).tokens (tee base m (suc (q + q))) ≡ rest_of (s.tokens (tee base m (suc (q + q))))
    unfolding join_state
    join_right =
        push_other _ (tee base m q) _ _ right_here ∙ pop_same (pop s (tee base m (q + q))) _
        ∙ ap rest_of (pop_other s _ _ left_right)

    join_out : (join_state s q).tokens (tee base m q) ≡ s.tokens (tee base m q) ++ paired_by (operator_of units.tree units.leaf node)
        (first_or credit (s.tokens (tee base m (q + q)))) (first_or credit (s.tokens (tee base m (suc (q + q))))) ∷ []
    unfolding join_state
    join_out =
        push_same _ (tee base m q) _
        ∙ ap (λ z. z ++ paired_by (operator_of units.tree units.leaf node) (first_or credit (s.tokens (tee base m (q + q))))
        (first_or credit (s.tokens (tee base m (suc (q + q))))) ∷ [])
        (pop_other (pop s (tee base m (q + q))) _ _ (λ e. right_here (sym e))
        ∙ pop_other s _ _ (λ e. left_here (sym e)))

    join_own : (p : ℕ) → (join_state s q).own p ≡ s.own p
    unfolding join_state push pop
    join_own p = refl

    join_joins : has_first (s.tokens (tee base m (q + q))) ≡ true →
        has_first (s.tokens (tee base m (suc (q + q)))) ≡ true →
        Joins G (seen s) (seen (join_state s q)) q (first_or credit (s.tokens (tee base m (q + q))))
        (first_or credit (s.tokens (tee base m (suc (q + q)))))
    join_joins full more = record {
      left = front _ full ∙ ap (λ z. first_or credit (s.tokens (tee base m (q + q))) ∷ z) (sym join_left);
      right = front _ more ∙ ap (λ z. first_or credit (s.tokens (tee base m (suc (q + q)))) ∷ z) (sym join_right);
      out = join_out;
      tees = λ r b l n x y.
          join_other (tee base m r) (tee_apart r q b pos n) (tee_apart r (q + q) b (omega arith) x)
          (tee_apart r (suc (q + q)) b (omega arith) y);
      segs = λ w l.
          join_other (base.chan + w) (λ e. tee_seg q w pos l (sym e)) (λ e. tee_seg (q + q) w (omega arith) l (sym e))
          (λ e. tee_seg (suc (q + q)) w (omega arith) l (sym e));
      sending = ap (λ o. o.held) (join_own base.proc);
      sent = ap (λ o. o.number) (join_own base.proc);
    }

    join_moves : Moves P s (join_state s q)
    unfolding join_state push pop
    join_moves = record {
      tokens = λ c i o out.
          join_other c (not_tee c q pos (omega arith) o out) (not_tee c (q + q) (omega arith) (omega arith) o out)
          (not_tee c (suc (q + q)) (omega arith) (omega arith) o out);
      own = λ p out. join_own p;
      unsent = refl;
      sent = refl;
      emitted = refl;
    }

    join_input : (join_state s q).tokens base.input ≡ s.tokens base.input
    join_input =
        join_other base.input (λ e. tee_input q pos (sym e)) (λ e. tee_input (q + q) (omega arith) (sym e))
        (λ e. tee_input (suc (q + q)) (omega arith) (sym e))

    join_keeps : has_first (s.tokens (tee base m (q + q))) ≡ true →
        has_first (s.tokens (tee base m (suc (q + q)))) ≡ true → P.orderly s ≡ true → Keeps P s (join_state s q)
    unfolding well_kept
    join_keeps full more h =
        let j = join_joins full more in
        record {
          orderly =
              and_from _ _ (join_even G (seen s) (seen (join_state s q)) q _ _ pos low j (suc d) 1 deep
              (and_parts _ _ h).0) (ap (λ o. split_ok G o.held o.number) (join_own base.proc) ∙ (and_parts _ _ h).1);
          line =
              line_flow (join_state s q)
              ∙ ap₂ (λ x y. x ++ map (over (joined G (suc d) 1)) y)
              (join_flow G (seen s) (seen (join_state s q)) q _ _ pos low j (suc d) 1 deep (λ e. omega (arith, e))
              (λ e. omega (arith, e, pos))) join_input
              ∙ sym (line_flow s);
        }

    join_needs : has_first (s.tokens (tee base m (q + q))) ≡ true →
        has_first (s.tokens (tee base m (suc (q + q)))) ≡ true → due P (join_state s q) < due P s
    unfolding due owed_in
    join_needs full more =
        let j = join_joins full more in
        let c : sum_of (λ w. length ((join_state s q).tokens (seg base w))) m
        ≡ sum_of (λ w. length (s.tokens (seg base w))) m =
        sum_same (λ w. length (s.tokens (seg base w))) (λ w. length ((join_state s q).tokens (seg base w))) m
        (λ w l. ap length (j.segs w l)) in
        let i : 3 * m * length ((join_state s q).tokens base.input) ≡ 3 * m * length (s.tokens base.input) =
        ap (λ x. 3 * m * length x) join_input in
        let t : to_send G ((join_state s q).own base.proc).held ((join_state s q).own base.proc).number
        ≡ to_send G (s.own base.proc).held (s.own base.proc).number =
        ap (λ o. to_send G o.held o.number) (join_own base.proc) in
        let l : left_flows G (seen (join_state s q)) (suc d) 1 < left_flows G (seen s) (suc d) 1 =
        join_works G (seen s) (seen (join_state s q)) q _ _ pos low j (suc d) 1 deep (under q pos (omega arith)) in
        omega (arith, c, i, t, l)

  -- SPLIT
  unfoldable take_state : State → State
  take_state s = set_own (pop s base.input) base.proc (record { number = 0; held = first_or credit (s.tokens base.input) ∷ [] })

  unfoldable send_state : State → State
  send_state s =
      set_own (push s (base.chan + (s.own base.proc).number)
      (over (segment_of units.tree node m (s.own base.proc).number) (first_or credit (s.own base.proc).held))) base.proc
      (after_segment m (s.own base.proc))

  module _ (s : State) where
    split_can : is_ready units.tree net s base.proc ≡ true →
        cond (has_first (s.own base.proc).held)
        (nat_lt (s.own base.proc).number (length (numbers_from base.chan m))
        && has_room net s (get_or (numbers_from base.chan m) (s.own base.proc).number 0))
        (has_first (s.tokens base.input)) ≡ true
    unfolding row_can run.can split.can join.can
    split_can can = (can_at net units s base.proc (split_proc node m base) split_stands can)

    split_fires : fire units.tree units.leaf net s base.proc ≡ cond (has_first (s.own base.proc).held)
        (set_own (push s (get_or (numbers_from base.chan m) (s.own base.proc).number 0)
        (over (segment_of units.tree node (length (numbers_from base.chan m)) (s.own base.proc).number) (first_or credit (s.own base.proc).held)))
        base.proc (after_segment (length (numbers_from base.chan m)) (s.own base.proc))) (take_state s)
    unfolding row_fire take_state run.fire split.fire join.fire split.segment_sent
    split_fires = fire_at net units s base.proc (split_proc node m base) split_stands

    send_low : has_first (s.own base.proc).held ≡ true → is_ready units.tree net s base.proc ≡ true →
        (s.own base.proc).number < m
    send_low full can =
        let a = and_parts (nat_lt (s.own base.proc).number (length (numbers_from base.chan m))) _
        (sym (cond-true _ _ _ full) ∙ split_can can) in
        let b : (s.own base.proc).number < length (numbers_from base.chan m) = ltb-true _ _ a.0 in
        omega (arith, numbers_length base.chan m)

    send_fires : has_first (s.own base.proc).held ≡ true → (s.own base.proc).number < m →
        fire units.tree units.leaf net s base.proc ≡ send_state s
    unfolding send_state
    send_fires full low =
        split_fires ∙ cond-true _ _ _ full
        ∙ ap₂ (λ c l. set_own
        (push s c (over (segment_of units.tree node l (s.own base.proc).number) (first_or credit (s.own base.proc).held))) base.proc
        (after_segment l (s.own base.proc)))
        (numbers_at base.chan m (s.own base.proc).number low) (numbers_length base.chan m)

    take_fires : has_first (s.own base.proc).held ≡ false → fire units.tree units.leaf net s base.proc ≡ take_state s
    take_fires none = split_fires ∙ cond-false _ _ _ none

    take_full : has_first (s.own base.proc).held ≡ false → is_ready units.tree net s base.proc ≡ true →
        has_first (s.tokens base.input) ≡ true
    take_full none can = sym (cond-false _ _ _ none) ∙ split_can can

    -- TAKE
    take_other : (c : ℕ) → c ≢ base.input → (take_state s).tokens c ≡ s.tokens c
    unfolding take_state
    take_other c h = set_tokens (pop s base.input) base.proc _ c ∙ pop_other s base.input c h

    take_in : (take_state s).tokens base.input ≡ rest_of (s.tokens base.input)
    unfolding take_state
    take_in = set_tokens (pop s base.input) base.proc _ base.input ∙ pop_same s base.input

    take_own : (take_state s).own base.proc ≡ record { number = 0; held = first_or credit (s.tokens base.input) ∷ [] }
    unfolding take_state
    take_own = own_same (pop s base.input) base.proc _

    take_moves : Moves P s (take_state s)
    unfolding take_state set_own pop
    take_moves = record {
      tokens = λ c i o out. take_other c i;
      own = λ p out.
          own_other (pop s base.input) base.proc (record { number = 0; held = first_or credit (s.tokens base.input) ∷ [] }) p
          (λ e. omega (arith, e, out, several));
      unsent = refl;
      sent = refl;
      emitted = refl;
    }

    take_takes : has_first (s.own base.proc).held ≡ false →
        Takes G (seen s) (seen (take_state s)) (first_or credit (s.tokens base.input))
    take_takes none = record {
      tees = λ r b l. take_other (tee base m r) (tee_input r (omega arith));
      segs = λ w l. take_other (base.chan + w) (λ e. omega (arith, e, placed.good.input));
      before = emptied _ none;
      sending = ap (λ o. o.held) take_own;
      sent = ap (λ o. o.number) take_own;
    }

    take_output : (take_state s).tokens base.output ≡ s.tokens base.output
    take_output = take_other base.output (λ e. placed.good.apart (sym e))

    take_keeps : has_first (s.own base.proc).held ≡ false → has_first (s.tokens base.input) ≡ true →
        P.orderly s ≡ true → Keeps P s (take_state s)
    unfolding well_kept line split_ok
    take_keeps none full h =
        let t = take_takes none in
        let k = and_parts _ _ h in
        let f : Token → Token = over (joined G (suc d) 1) in
        record {
          orderly =
              and_from _ _ (take_even G (seen s) (seen (take_state s)) _ t (suc d) 1 deep k.0)
              (ap (λ o. split_ok G o.held o.number) take_own ∙ lt-ltb 0 m (omega (arith, several)));
          line =
              ap₂ (λ x y. x ++ y) take_output
              (ap₂ (λ x y. x ++ map (over (joined G (suc d) 1)) y)
              (take_after G (seen s) (seen (take_state s)) _ t d 1 deep k.0) take_in
              ∙ append_assoc (after_node G (seen s) (suc d) 1) _ _
              ∙ ap (λ y. after_node G (seen s) (suc d) 1 ++ map (over (joined G (suc d) 1)) y) (sym (front _ full)));
        }

    take_needs : has_first (s.own base.proc).held ≡ false → has_first (s.tokens base.input) ≡ true →
        P.orderly s ≡ true → due P (take_state s) < due P s
    unfolding due owed_in well_kept to_send
    take_needs none full h =
        let t = take_takes none in
        let c : sum_of (λ w. length ((take_state s).tokens (seg base w))) m
        ≡ sum_of (λ w. length (s.tokens (seg base w))) m =
        sum_same (λ w. length (s.tokens (seg base w))) (λ w. length ((take_state s).tokens (seg base w))) m
        (λ w l. ap length (t.segs w l)) in
        let i : 3 * m * length (s.tokens base.input) ≡ 3 * m * length ((take_state s).tokens base.input) + 3 * m =
        ap (λ z. 3 * m * z) (ap length (front _ full) ∙ ap (λ z. suc (length z)) (sym take_in)) ∙ omega arith in
        let a : to_send G ((take_state s).own base.proc).held ((take_state s).own base.proc).number ≡ 2 * (m - 0) =
        ap (λ o. to_send G o.held o.number) take_own in
        let b : to_send G (s.own base.proc).held (s.own base.proc).number ≡ 0 =
        ap (λ z. to_send G z (s.own base.proc).number) (emptied _ none) in
        let l : left_flows G (seen (take_state s)) (suc d) 1 ≡ left_flows G (seen s) (suc d) 1 + join_count (suc d) =
        take_left G (seen s) (seen (take_state s)) _ t (suc d) 1 deep (and_parts _ _ h).0 in
        omega (arith, c, i, a, b, l, joins_are)

    -- SEND
    send_other : (c : ℕ) → c ≢ base.chan + (s.own base.proc).number → (send_state s).tokens c ≡ s.tokens c
    unfolding send_state
    send_other c h = set_tokens (push s (base.chan + (s.own base.proc).number) _) base.proc _ c ∙ push_other s _ _ c h

    send_at : (send_state s).tokens (base.chan + (s.own base.proc).number)
        ≡ s.tokens (base.chan + (s.own base.proc).number)
        ++ over (segment_of units.tree node m (s.own base.proc).number) (first_or credit (s.own base.proc).held) ∷ []
    unfolding send_state
    send_at = set_tokens (push s (base.chan + (s.own base.proc).number) _) base.proc _ _ ∙ push_same s _ _

    send_own : (send_state s).own base.proc ≡ after_segment m (s.own base.proc)
    unfolding send_state
    send_own = own_same (push s (base.chan + (s.own base.proc).number) _) base.proc _

    send_moves : (s.own base.proc).number < m → Moves P s (send_state s)
    unfolding send_state set_own push
    send_moves low = record {
      tokens = λ c i o out. send_other c (not_seg c (s.own base.proc).number low out);
      own = λ p out.
          own_other (push s (base.chan + (s.own base.proc).number)
          (over (segment_of units.tree node m (s.own base.proc).number) (first_or credit (s.own base.proc).held))) base.proc
          (after_segment m (s.own base.proc)) p (λ e. omega (arith, e, out, several));
      unsent = refl;
      sent = refl;
      emitted = refl;
    }

    -- it goes on with the next segment, or is done
    after_more : suc (s.own base.proc).number < m →
        after_segment m (s.own base.proc)
        ≡ record { number = (s.own base.proc).number + 1; held = (s.own base.proc).held }
    unfolding after_segment
    after_more l = cond-true _ _ _ (lt-ltb _ _ l)

    after_last : m ≤ suc (s.own base.proc).number → after_segment m (s.own base.proc) ≡ fresh
    unfolding after_segment
    after_last l = cond-false _ _ _ (le-ltb _ _ l)

    next_piece : has_first (s.own base.proc).held ≡ true →
        (((send_state s).own base.proc).held ≡ first_or credit (s.own base.proc).held ∷ rest_of (s.own base.proc).held)
        × (((send_state s).own base.proc).number ≡ suc (s.own base.proc).number) × (suc (s.own base.proc).number < m)
        ⊎ ((send_state s).own base.proc ≡ fresh) × (m ≤ suc (s.own base.proc).number)
    next_piece full =
        elim (cases_lt (suc (s.own base.proc).number) m) [
          | inl l ↦ let e = send_own ∙ after_more l in
              inl (ap (λ o. o.held) e ∙ front _ full, ap (λ o. o.number) e ∙ omega arith, l)
          | inr l ↦ inr (send_own ∙ after_last l, l)
        ]

    send_sends : has_first (s.own base.proc).held ≡ true → (s.own base.proc).number < m →
        Sends G (seen s) (seen (send_state s)) (s.own base.proc).number (first_or credit (s.own base.proc).held)
        (rest_of (s.own base.proc).held)
    send_sends full low = record {
      tees = λ r b l. send_other (tee base m r) (tee_seg r (s.own base.proc).number (omega arith) low);
      segs = λ w l n. send_other (base.chan + w) (λ e. n (omega (arith, e)));
      seg = send_at;
      before = front _ full;
      count = refl;
      after = elim (next_piece full) [ inl a ↦ inl (a.0, a.1) | inr a ↦ inr (ap (λ o. o.held) a.0, a.1) ];
    }

    send_quiet : has_first (s.own base.proc).held ≡ true → (s.own base.proc).number < m → Quiet s (send_state s)
    send_quiet full low = record {
      inner = λ q b l. (send_sends full low).tees q b (omega arith);
      leafs = λ q b a l.
          send_leaf G (seen s) (seen (send_state s)) (s.own base.proc).number (first_or credit (s.own base.proc).held)
          (rest_of (s.own base.proc).held) low (send_sends full low) q b a l;
      output = send_other base.output (λ e. omega (arith, e, placed.good.output));
      input = send_other base.input (λ e. omega (arith, e, placed.good.input));
    }

    send_keeps : has_first (s.own base.proc).held ≡ true → (s.own base.proc).number < m → P.orderly s ≡ true →
        Keeps P s (send_state s)
    unfolding split_ok
    send_keeps full low h =
        quiet_keeps s (send_state s) (send_quiet full low)
        (elim (next_piece full) [
          | inl a ↦ ap₂ (split_ok G) a.0 a.1 ∙ lt-ltb _ _ a.2
          | inr a ↦ ap (λ o. split_ok G o.held o.number) a.0
        ]) h

    send_needs : has_first (s.own base.proc).held ≡ true → (s.own base.proc).number < m → due P (send_state s) < due P s
    unfolding due owed_in to_send
    send_needs full low =
        let z = send_quiet full low in
        let n = send_sends full low in
        let c = sum_change (λ w. length (s.tokens (seg base w))) (λ w. length ((send_state s).tokens (seg base w))) m
        (s.own base.proc).number low (λ w l d. ap length (n.segs w l d)) in
        let one : length ((send_state s).tokens (seg base (s.own base.proc).number))
        ≡ length (s.tokens (seg base (s.own base.proc).number)) + 1 =
        ap length n.seg ∙ length-append (s.tokens (seg base (s.own base.proc).number)) _ in
        let i : 3 * m * length ((send_state s).tokens base.input) ≡ 3 * m * length (s.tokens base.input) =
        ap (λ x. 3 * m * length x) z.input in
        let b : to_send G (s.own base.proc).held (s.own base.proc).number ≡ 2 * (m - (s.own base.proc).number) =
        ap (λ x. to_send G x (s.own base.proc).number) (front _ full) in
        let a : to_send G ((send_state s).own base.proc).held ((send_state s).own base.proc).number
        ≡ 2 * (m - suc (s.own base.proc).number) =
        elim (next_piece full) [
          | inl x ↦ ap₂ (to_send G) x.0 x.1
          | inr x ↦ ap (λ o. to_send G o.held o.number) x.0 ∙ omega (arith, x.1)
        ] in
        let l = quiet_left s (send_state s) z in
        omega (arith, c, one, i, a, b, l, low)

  -- THE LAWS
  -- a firing inside is one of these
  data Fires (s : State) (p : ℕ) : Type 0 where
    Takes_one : has_first (s.own base.proc).held ≡ false → has_first (s.tokens base.input) ≡ true →
        fire units.tree units.leaf net s p ≡ take_state s → Fires s p
    Sends_one : has_first (s.own base.proc).held ≡ true → (s.own base.proc).number < m →
        fire units.tree units.leaf net s p ≡ send_state s → Fires s p
    Joins_two : (q : ℕ) → 0 < q → q < m → has_first (s.tokens (tee base m (q + q))) ≡ true →
        has_first (s.tokens (tee base m (suc (q + q)))) ≡ true → fire units.tree units.leaf net s p ≡ join_state s q → Fires s p
    Folds_one : (u : ℕ) → u < m → has_first (s.tokens (base.chan + u)) ≡ true →
        fire units.tree units.leaf net s p ≡ fold_state s u → Fires s p

  fires_so : (s : State) (p : ℕ) → IsInside P p → is_ready units.tree net s p ≡ true → Fires s p
  fires_so s p inside can =
      elim (cases_eq p base.proc) [
        | inl e ↦
            let now : is_ready units.tree net s base.proc ≡ true = ap (is_ready units.tree net s) (sym e) ∙ can in
            elim (cases_Bool (has_first (s.own base.proc).held)) [
              | inl full ↦ let low = send_low s full now in
                  Sends_one full low (ap (fire units.tree units.leaf net s) e ∙ send_fires s full low)
              | inr none ↦ Takes_one none (take_full s none now) (ap (fire units.tree units.leaf net s) e ∙ take_fires s none)
            ]
        | inr e ↦ elim (cases_lt p (base.proc + m)) [
          | inl l ↦
              let q : ℕ = p - base.proc in
              let at_q : p ≡ base.proc + (p - base.proc) = omega (arith, inside.from) in
              let full =
              join_full s (p - base.proc) (omega (arith, e, inside.from)) (omega (arith, l, e, inside.from))
              (ap (is_ready units.tree net s) (sym at_q) ∙ can) in
              Joins_two (p - base.proc) (omega (arith, e, inside.from)) (omega (arith, l, e, inside.from)) full.0 full.1
              (ap (fire units.tree units.leaf net s) at_q
              ∙ join_fires s (p - base.proc) (omega (arith, e, inside.from)) (omega (arith, l, e, inside.from)))
          | inr l ↦
              let at_u : p ≡ base.proc + m + (p - (base.proc + m)) = omega (arith, l) in
              Folds_one (p - (base.proc + m)) (omega (arith, l, inside.to))
              (fold_full s (p - (base.proc + m)) (omega (arith, l, inside.to))
              (ap (is_ready units.tree net s) (sym at_u) ∙ can))
              (ap (fire units.tree units.leaf net s) at_u ∙ fold_fires s (p - (base.proc + m)) (omega (arith, l, inside.to)))
        ]
      ]

  -- every process of a reduce has one way to fire
  one_way : (s t : State) (p : ℕ) → IsInside P p → MayFire units.tree units.leaf net s p t →
      (is_ready units.tree net s p ≡ true) × (t ≡ fire units.tree units.leaf net s p)
  one_way s t p inside way =
      elim (cases_eq p base.proc) [
        | inl e ↦ at_place t p base.proc (sym e) (split_proc node m base) split_stands strict_split way
        | inr e ↦ elim (cases_lt p (base.proc + m)) [
          | inl l ↦
              at_place t p (base.proc + (p - base.proc)) (omega (arith, inside.from)) (join_proc node m base (p - base.proc))
              (join_stands (p - base.proc) (omega (arith, e, inside.from)) (omega (arith, l, e, inside.from))) strict_join way
          | inr l ↦
              at_place t p (base.proc + m + (p - (base.proc + m))) (omega (arith, l))
              (fold_proc node m base (p - (base.proc + m)) (get_or (segment_lengths (suc d) len) (p - (base.proc + m)) 0))
              (fold_stands (p - (base.proc + m)) (omega (arith, l, inside.to))) strict_run way
        ]
      ]
    where
      at_place : (t : State) (p r : ℕ) → r ≡ p → (q : Proc) → slice_get net.procs r ≡ Some q → IsStrict q.kind →
          MayFire units.tree units.leaf net s p t → (is_ready units.tree net s p ≡ true) × (t ≡ fire units.tree units.leaf net s p)
      at_place t p r e q stands strict way =
          strict_at net units s p q (ap (slice_get net.procs) (sym e) ∙ stands) t strict way

  tree_moves : (s : State) (p : ℕ) → Fires s p → Moves P s (fire units.tree units.leaf net s p)
  tree_moves s p (Takes_one none full e) = subst (Moves P s) (sym e) (take_moves s)
  tree_moves s p (Sends_one full low e) = subst (Moves P s) (sym e) (send_moves s low)
  tree_moves s p (Joins_two q pos low full more e) = subst (Moves P s) (sym e) (join_moves s q pos low)
  tree_moves s p (Folds_one u low full e) = subst (Moves P s) (sym e) (fold_moves s u low)

  tree_keeps : (s : State) (p : ℕ) → P.orderly s ≡ true → Fires s p → Keeps P s (fire units.tree units.leaf net s p)
  tree_keeps s p h (Takes_one none full e) = subst (Keeps P s) (sym e) (take_keeps s none full h)
  tree_keeps s p h (Sends_one full low e) = subst (Keeps P s) (sym e) (send_keeps s full low h)
  tree_keeps s p h (Joins_two q pos low full more e) = subst (Keeps P s) (sym e) (join_keeps s q pos low full more h)
  tree_keeps s p h (Folds_one u low full e) = subst (Keeps P s) (sym e) (fold_keeps s u low full h)

  tree_works : (s : State) (p : ℕ) → P.orderly s ≡ true → Fires s p → due P (fire units.tree units.leaf net s p) < due P s
  tree_works s p h (Takes_one none full e) = subst (λ t. due P t < due P s) (sym e) (take_needs s none full h)
  tree_works s p h (Sends_one full low e) = subst (λ t. due P t < due P s) (sym e) (send_needs s full low)
  tree_works s p h (Joins_two q pos low full more e) =
      subst (λ t. due P t < due P s) (sym e) (join_needs s q pos low full more)
  tree_works s p h (Folds_one u low full e) = subst (λ t. due P t < due P s) (sym e) (fold_works s u low full)

  -- DRAIN
  module _ (s : State) (h : P.orderly s ≡ true) (quiet : (p : ℕ) → IsInside P p → can_fire units.tree net s p ≡ false)
      (untrapped : has_trap s.emitted ≡ false) (room : has_room net s base.output ≡ true) where
    first_empty : (x y z : Bool) → z ≡ true → (x && (y && z)) ≡ false → (x ≡ false) ⊎ (y ≡ false)
    first_empty true true z e k = let f : true ≡ false = sym e ∙ k in cc
    first_empty true false z e k = inr refl
    first_empty false y z e k = inl refl

    join_cannot : (q : ℕ) → 0 < q → q < m → has_room net s (tee base m q) ≡ true →
        (s.tokens (tee base m (q + q)) ≡ []) ⊎ (s.tokens (tee base m (suc (q + q))) ≡ [])
    unfolding row_can run.can split.can join.can
    join_cannot q pos low r =
        let k = cannot_at net units s (base.proc + q) (join_proc node m base q) (join_stands q pos low) untrapped
        (quiet (base.proc + q) (record { from = omega arith; to = omega (arith, low) })) in
        elim (first_empty _ _ _ r k) [ inl e ↦ inl (emptied _ e) | inr e ↦ inr (emptied _ e) ]

    fold_cannot : (u : ℕ) → u < m → s.tokens (tee base m (m + u)) ≡ [] → s.tokens (base.chan + u) ≡ []
    unfolding row_can run.can split.can join.can
    fold_cannot u low e =
        let a = tee_at base m (m + u) (omega (arith, several)) in
        let r : has_room net s (tee base m (m + u)) ≡ true =
        room_when_empty net s _ e (roomy _ (omega (arith, a)) (omega (arith, a, low, several))) in
        emptied _ (and_right_true _ _ r
        (cannot_at net units s (base.proc + m + u) (fold_proc node m base u (get_or (segment_lengths (suc d) len) u 0))
        (fold_stands u low) untrapped (quiet (base.proc + m + u) (record { from = omega arith; to = omega (arith, low) }))))

    split_cannot : cond (has_first (s.own base.proc).held)
        (nat_lt (s.own base.proc).number (length (numbers_from base.chan m))
        && has_room net s (get_or (numbers_from base.chan m) (s.own base.proc).number 0))
        (has_first (s.tokens base.input)) ≡ false
    unfolding row_can run.can split.can join.can
    split_cannot =
        cannot_at net units s base.proc (split_proc node m base) split_stands untrapped
        (quiet base.proc (record { from = le_refl _; to = omega (arith, several) }))

    no_room : (c : ℕ) → 0 < (chan_at net c).cap → has_room net s c ≡ false → 0 < length (s.tokens c)
    no_room c pos k = go (s.tokens c) refl
      where
        go : (ts : List Token) → s.tokens c ≡ ts → 0 < length (s.tokens c)
        go [] e = let f : true ≡ false = sym (room_when_empty net s c e pos) ∙ k in cc
        go (t ∷ ts) e = omega (arith, ap length e)

    split_waits : (x : Token) (xs : List Token) → (s.own base.proc).held ≡ x ∷ xs →
        ((s.own base.proc).number < m) × (0 < length (s.tokens (base.chan + (s.own base.proc).number)))
    unfolding split_ok well_kept
    split_waits x xs e =
        let k : ℕ = (s.own base.proc).number in
        let low : (s.own base.proc).number < m =
        ltb-true (s.own base.proc).number m
        (sym (ap (λ z. split_ok G z (s.own base.proc).number) e) ∙ (and_parts _ _ h).1) in
        let b : nat_lt (s.own base.proc).number (length (numbers_from base.chan m)) ≡ true =
        lt-ltb (s.own base.proc).number (length (numbers_from base.chan m)) (omega (arith, low, numbers_length base.chan m)) in
        let c = and_left_true _ _ b (sym (cond-true _ _ _ (ap has_first e)) ∙ split_cannot) in (
          low,
          no_room (base.chan + (s.own base.proc).number) (roomy _ (omega arith) (omega (arith, low, several)))
              (ap (has_room net s) (sym (numbers_at base.chan m (s.own base.proc).number low)) ∙ c),
        )

    stuck : Stuck G (seen s)
    unfolding tee_by
    stuck = record {
      joins = λ q b l e.
          let a = tee_at base m q b in
          join_cannot q (omega arith) l
          (room_when_empty net s _ e (roomy _ (omega (arith, a, b)) (omega (arith, a, b, l))));
      top = join_cannot 1 (omega arith) (omega (arith, several)) room;
      runs = fold_cannot;
      split = split_waits;
    }

    tree_drained : IsDrained P s
    unfolding well_kept
    tree_drained =
        let r = all_dry G (seen s) stuck d deep (and_parts _ _ h).0 (λ q a b. under q (omega (arith, a, several)) b) in
        record {
          input = emptied _ (sym (cond-false _ _ _ (ap has_first r.0)) ∙ split_cannot);
          pending = r.1;
        }

  -- READS
  leaf_same : (s t : State) → ((q : ℕ) → 1 < q → q < m + m → t.tokens (tee base m q) ≡ s.tokens (tee base m q)) →
      ((u : ℕ) → u < m → t.tokens (base.chan + u) ≡ s.tokens (base.chan + u)) → t.own base.proc ≡ s.own base.proc →
      (q : ℕ) → 1 < q → m ≤ q → q < m + m → flow G (seen t) 0 q ≡ flow G (seen s) 0 q
  unfolding after_node
  leaf_same s t tees segs o q b a l =
      ap₂ (λ x y. x ++ y) (tees q b l)
      (ap₂ (λ x y. map (over (outcome_at units node)) x ++ unsent G y.held y.number (q - m)) (segs (q - m) (omega arith)) o)

  tree_reads : (s t : State) → IsSameInside P s t → IsAlike P s t
  unfolding well_kept owed_in
  tree_reads s t same =
      let o : t.own base.proc ≡ s.own base.proc = same.own base.proc (le_refl _) (omega (arith, several)) in
      let tees : (q : ℕ) → 1 < q → q < m + m → t.tokens (tee base m q) ≡ s.tokens (tee base m q) =
      λ q b l. let a = tee_at base m q b in same.tokens _ (omega (arith, a, b)) (omega (arith, a, b, l)) in
      let segs : (u : ℕ) → u < m → t.tokens (base.chan + u) ≡ s.tokens (base.chan + u) = λ u l.
      same.tokens _ (omega arith) (omega (arith, l, several)) in
      let inner : (q : ℕ) → 1 < q → q < m → t.tokens (tee base m q) ≡ s.tokens (tee base m q) = λ q b l.
      tees q b (omega arith) in
      let leafs : (q : ℕ) → 1 < q → m ≤ q → q < m + m → flow G (seen t) 0 q ≡ flow G (seen s) 0 q = λ q b a l.
      leaf_same s t tees segs o q b a l in
      record {
        pending = after_same G (seen s) (seen t) inner leafs d 1 deep;
        orderly =
            ap₂ (λ x y. x && y) (even_same G (seen s) (seen t) inner leafs (suc d) 1 deep)
            (ap (λ z. split_ok G z.held z.number) o);
        owed = ap₂ (λ x y. x + y)
            (sum_same (λ w. length (s.tokens (seg base w))) (λ w. length (t.tokens (seg base w))) m
            (λ w l. ap length (segs w l)))
            (ap₂ (λ x y. x + y) (ap (λ z. to_send G z.held z.number) o)
            (left_same G (seen s) (seen t) inner leafs (suc d) 1 deep));
      }

  -- BEGINS
  tree_begins : (s : State) → IsFresh net P s → Begins P s
  unfolding well_kept owed_in split_ok to_send
  tree_begins s fresh =
      let o = fresh.own base.proc (le_refl _) (omega (arith, several)) in
      let none : (c : ℕ) → base.chan ≤ c → c < base.chan + (m + (m + m - 2)) → s.tokens c ≡ [] =
      λ c f l.
      fresh.tokens c f l ∙ subst (λ z. at_first net z ≡ []) (omega (arith, f))
      (plain_empty net base.chan (m + (m + m - 2)) placed.cap placed.laid (c - base.chan) (omega (arith, f, l))) in
      let tees : (q : ℕ) → 1 < q → q < m + m → s.tokens (tee base m q) ≡ [] = λ q b l. let a = tee_at base m q b in
      none _ (omega (arith, a, b)) (omega (arith, a, b, l)) in
      let segs : (u : ℕ) → u < m → s.tokens (base.chan + u) ≡ [] = λ u l.
      none _ (omega arith) (omega (arith, l, several)) in
      let held : (s.own base.proc).held ≡ [] = ap (λ z. z.held) o in
      record {
        orderly =
            and_from _ _ (empty_even G (seen s) tees segs held (suc d) 1 deep)
            (ap (λ z. split_ok G z (s.own base.proc).number) held);
        pending = empty_after G (seen s) tees segs held d 1 deep;
        owed = ap₂ (λ x y. x + y)
            (sum_none (λ w. length (s.tokens (seg base w))) m (λ w l. ap length (segs w l)))
            (ap₂ (λ x y. x + y) (ap (λ z. to_send G z (s.own base.proc).number) held)
            (empty_left G (seen s) tees segs held (suc d) 1 deep));
      }

  -- THE SIZE
  tree_inside : (s : State) → inside_in G (seen s) ≤ inside P s
  unfolding inside_in inside in_hands
  tree_inside s =
      let a : base.chan + (m + (m + m - 2)) - base.chan ≡ m + (m + m - 2) = omega arith in
      let b : base.proc + (m + m) - base.proc ≡ suc (m + m - 1) = omega (arith, several) in
      let c = ap (in_channels s base.chan) a ∙ channels_split s base.chan m (m + m - 2) in
      let e = ap (in_hands s base.proc) b in
      let f = channels_sum s base.chan m in
      let h = channels_sum s (base.chan + m) (m + m - 2) in
      let t = sum_same (λ i. length (s.tokens (base.chan + m + i))) (λ i. length (s.tokens (tee base m (i + 2))))
      (m + m - 2) (λ i l. ap (λ z. length (s.tokens z)) (tee_at base m (i + 2) (omega arith) ∙ omega arith)) in
      omega (arith, c, e, f, h, t, held_few (s.own base.proc).held)

  tree_size : (s : State) → IsSized P s
  tree_size s =
      let i = tree_inside s in
      let n : 3 * m * inside_in G (seen s) ≤ 3 * m * inside P s = times_le (3 * m) _ _ i in
      record {
        owed = omega (arith, owed_few G (seen s) (suc d) deep joins_are, n);
        pending = omega (arith, come_few G (seen s) d deep, i);
      }

  tree_law : IsLawfulPart net units P
  tree_law = record {
    procs = omega arith;
    chans = omega arith;
    reads = tree_reads;
    begins = tree_begins;
    moves = λ s t p inside way.
        let w = one_way s t p inside way in subst (Moves P s) (sym w.1) (tree_moves s p (fires_so s p inside w.0));
    step = λ s t p inside way h.
        let w = one_way s t p inside way in subst (Keeps P s) (sym w.1) (tree_keeps s p h (fires_so s p inside w.0));
    work = λ s t p inside way h.
        let w = one_way s t p inside way in
        subst (λ u. due P u < due P s) (sym w.1) (tree_works s p h (fires_so s p inside w.0));
    size = λ s h. tree_size s;
    drain = tree_drained;
  }

pub tree_procs : (node m d len : ℕ) → m ≡ 2 ^ suc d → (base : Base) →
    length (split_proc node m base ∷
    (join_procs node base.output (base.chan + m) 1 (m - 1)
    ++ fold_procs node m base.output base.chan (base.chan + m) 0 (segment_lengths (suc d) len))) ≡ m + m
tree_procs node m d len power base =
    let some : 0 < 2 ^ suc d = pow_pos (suc d) in
    let a = length-append (join_procs node base.output (base.chan + m) 1 (m - 1))
    (fold_procs node m base.output base.chan (base.chan + m) 0 (segment_lengths (suc d) len)) in
    omega (
      arith,
      a,
      joins_length node base.output (base.chan + m) 1 (m - 1),
      folds_length node m base 0 (segment_lengths (suc d) len),
      lengths_length (suc d) len,
      power,
    )

tree_lies : (node m d len : ℕ) → m ≡ 2 ^ suc d →
    (net : Net) (units : Units) (roles : ℕ → Role) (base : Base) (parts : List Part) →
    IsPlaced net units roles (tree_shape node m d len) base parts →
    LiesAt (tree_shape node m d len) units roles base parts (tree_part units node m d base)
unfolding AreChained proc_end chan_end
tree_lies node m d len power net units roles base [] placed =
    record {
      meaning = refl;
      firings = refl;
      input = refl;
      output = refl;
      proc_from = refl;
      chan_from = refl;
      proc_to = ap (λ z. base.proc + z) (sym (tree_procs node m d len power base));
      chan_to = refl;
    }
tree_lies node m d len power net units roles base (P ∷ Ps) placed = absurd placed.inner

tree_lawful : (node m d len : ℕ) → m ≡ 2 ^ suc d → IsLawfulShape (tree_shape node m d len)
tree_lawful node m d len power = record {
  lawful = λ net units roles base parts placed. tree_law net units roles node m d len power base parts placed;
  lies = tree_lies node m d len power;
  count = λ base. refl;
  laid = λ cap base. length-replicate (m + (m + m - 2)) (empty_chan cap);
  rooms = λ cap base k h l. plain_room (m + (m + m - 2)) cap k h l;
  slots = λ net base good v l. absurd (omega arith);
}

-- THE LAW OF THE REDUCE
pub reduce_lawful : (node len level : ℕ) → IsLawfulShape (reduce_shape node len level)
unfolding reduce_shape
reduce_lawful node len zero = run_lawful node
reduce_lawful node len (suc d) = tree_lawful node (2 ^ suc d) d len refl
