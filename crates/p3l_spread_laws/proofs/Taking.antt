-- Every way that is open to a process of a typed net by its rank's view can be taken: the tokens that it takes were seen, and there
-- is credit for those that it appends.
use Rattle.std.proofs.Common.{◌≡◌, ◌≢◌, ℕ, ◌+◌, ◌-◌, ◌≤◌, ◌<◌, nat_lt, inl, inr, ◌&&◌, Bool, true, List, [], ◌∷◌, ◌++◌, length, Option, Some, None, slice_get, slice_index, refl, sym, ap, ◌∙◌, subst, arith, ltb-true, length-append, append_assoc, append-nil}
use Rattle.std.proofs.lemmas.Bool.{cases_Bool, cases_eq, cond-true, cond-false, and_parts}
use Rattle.p3l_skel.specs.declared.tree.Tree.{Tree}
use Rattle.p3l_ready.specs.At.{at}
use Rattle.p3l_ready.proofs.AtLemmas.{at-same, at-other}
use Rattle.p3l_firing.specs.declared.net.Net.{Net}
use Rattle.p3l_firing.specs.declared.process.Proc.{Proc}
use Rattle.p3l_firing.specs.declared.process.ProcKind.{ProcKind}
use Rattle.p3l_firing.specs.declared.process.ProcKind.TheVariants as kinds
use Rattle.p3l_firing.specs.declared.token.Token.{Token}
use Rattle.p3l_firing.specs.Lists.{has_first, first_or, rest_of}
use Rattle.p3l_firing.specs.Nodes.{Leaf}
use Rattle.p3l_firing.specs.Process.{Has, in_of, out_of}
use Rattle.p3l_firing.specs.State.{State, pop, push, set_own}
use Rattle.p3l_firing.specs.Token.{credit}
use Rattle.p3l_firing.specs.Typed.{FitsKind, IsTyped}
use Rattle.p3l_firing.specs.Ways.{row_ways, Sees}
use Rattle.p3l_firing.specs.kinds.Source as source
use Rattle.p3l_firing.specs.kinds.Sink as sink
use Rattle.p3l_firing.specs.kinds.Run as run
use Rattle.p3l_firing.specs.kinds.Emit as emit
use Rattle.p3l_firing.specs.kinds.Collect as collect
use Rattle.p3l_firing.specs.kinds.Scatter as scatter
use Rattle.p3l_firing.specs.kinds.Gather as gather
use Rattle.p3l_firing.specs.kinds.Split as split
use Rattle.p3l_firing.specs.kinds.FoldGather as fold_gather
use Rattle.p3l_firing.specs.kinds.Join as join
use Rattle.p3l_firing.specs.kinds.Head as head
use Rattle.p3l_firing.specs.kinds.Tail as tail
use Rattle.p3l_firing.proofs.Fitting.{all_of_one}
use Rattle.p3l_firing.proofs.Places.{all-has, has-nth, first_apart}
use Rattle.p3l_firing.proofs.Rows.{front_split}
use Rattle.p3l_firing.proofs.WaysLaw.{ways_at, no_way}
use Rattle.p3l_spread_laws.specs.Laws.{IsTaken, EveryWayCanBeTaken}
use Rattle.p3l_spread_laws.specs.Spread.{Spread, IsSound, view, Shifts}

-- the net with a token taken, and with one appended
unfoldable popped : Spread → ℕ → Spread
popped d a = record { state = pop d.state a; seen = at d.seen a (d.seen a - 1); credit = d.credit; fired = d.fired }

unfoldable pushed : Spread → ℕ → Token → Spread
pushed d b x = record { state = push d.state b x; seen = d.seen; credit = at d.credit b (d.credit b - 1); fired = d.fired }

-- tokens were taken, and none appended
record Pops (d e : Spread) (c : ℕ) : Type 0 where
  taken : List Token
  before : d.state.tokens c ≡ taken ++ e.state.tokens c
  seen : e.seen c + length taken ≡ d.seen c
  credit : e.credit c ≡ d.credit c

pops_none : (d : Spread) (c : ℕ) → Pops d d c
pops_none d c = record { taken = []; before = refl; seen = omega arith; credit = refl }

some_there : (ts : List Token) → 0 < length ts → has_first ts ≡ true
some_there [] l = absurd (omega arith)
some_there (t ∷ ts) l = refl

pops_more : (d e : Spread) (a : ℕ) → ((c : ℕ) → Pops d e c) → 0 < e.seen a → e.seen a ≤ length (e.state.tokens a) →
    (c : ℕ) → Pops d (popped e a) c
unfolding popped pop
pops_more d e a h l m c =
    elim (cases_eq c a) [
      | inl same ↦ subst (Pops d (popped e a)) (sym same) here
      | inr other ↦
          let x = h c in
          record {
            taken = x.taken;
            before = x.before ∙ ap (λ z. x.taken ++ z) (sym (at-other e.state.tokens a _ c other));
            seen = ap (λ z. z + length x.taken) (at-other e.seen a _ c other) ∙ x.seen;
            credit = x.credit;
          }
    ]
  where
    here : Pops d (popped e a) a
    here =
        let x = h a in
        let f = front_split credit (e.state.tokens a) (some_there (e.state.tokens a) (omega (arith, l, m))) in
        let n = length-append x.taken (first_or credit (e.state.tokens a) ∷ []) in
        let s = at-same e.seen a (e.seen a - 1) in
        record {
          taken = x.taken ++ first_or credit (e.state.tokens a) ∷ [];
          before = x.before ∙ ap (λ z. x.taken ++ z) f ∙ sym (append_assoc x.taken (first_or credit (e.state.tokens a) ∷ []) _)
              ∙ ap (λ z. (x.taken ++ first_or credit (e.state.tokens a) ∷ []) ++ z) (sym (at-same e.state.tokens a _));
          seen = omega (arith, n, s, x.seen, l);
          credit = x.credit;
        }

shifts_of : (d e : Spread) → ((c : ℕ) → Pops d e c) → (c : ℕ) → Shifts d e c
shifts_of d e h c =
    let x = h c in
    record {
      taken = x.taken;
      kept = e.state.tokens c;
      given = [];
      before = x.before;
      after = sym (append-nil (e.state.tokens c));
      seen = x.seen;
      credit = omega (arith, x.credit);
    }

shifts_more : (d e : Spread) (b : ℕ) (x : Token) → ((c : ℕ) → Shifts d e c) → 0 < e.credit b → (c : ℕ) → Shifts d (pushed e b x) c
unfolding pushed push
shifts_more d e b x h l c =
    elim (cases_eq c b) [
      | inl same ↦ subst (Shifts d (pushed e b x)) (sym same) here
      | inr other ↦
          let y = h c in
          record {
            taken = y.taken;
            kept = y.kept;
            given = y.given;
            before = y.before;
            after = at-other e.state.tokens b _ c other ∙ y.after;
            seen = y.seen;
            credit = ap (λ z. z + length y.given) (at-other e.credit b _ c other) ∙ y.credit;
          }
    ]
  where
    here : Shifts d (pushed e b x) b
    here =
        let y = h b in
        let n = length-append y.given (x ∷ []) in
        let s = at-same e.credit b (e.credit b - 1) in
        record {
          taken = y.taken;
          kept = y.kept;
          given = y.given ++ x ∷ [];
          before = y.before;
          after = at-same e.state.tokens b _ ∙ ap (λ z. z ++ x ∷ []) y.after ∙ append_assoc y.kept y.given (x ∷ []);
          seen = y.seen;
          credit = omega (arith, n, s, y.credit, l);
        }

first_of_two : (b c : Bool) → (b && c) ≡ true → b ≡ true
first_of_two b c h = (and_parts b c h).0

second_of_two : (b c : Bool) → (b && c) ≡ true → c ≡ true
second_of_two b c h = (and_parts b c h).1

module _ (tree : Tree) (leaf : Leaf) (net : Net) (typed : IsTyped tree net) (d : Spread) (sound : IsSound net d) (p : ℕ) where
  -- the firing from d to state t, which shifts the channels from d to e
  done : (t : State) (e : Spread) → Sees tree leaf net (view d) d.state p t → ((c : ℕ) → Shifts d e c) →
      ((c : ℕ) → t.tokens c ≡ e.state.tokens c) → IsTaken tree leaf net d t
  done t e way h same = record {
    to = record { state = t; seen = e.seen; credit = e.credit; fired = d.fired + 1 };
    state = refl;
    fires = record {
      by = p;
      way = way;
      shifts = λ c.
          let x = h c in
          record {
            taken = x.taken;
            kept = x.kept;
            given = x.given;
            before = x.before;
            after = same c ∙ x.after;
            seen = x.seen;
            credit = x.credit;
          };
      count = refl;
    };
  }

  untouched : (c : ℕ) → Shifts d d c
  untouched = shifts_of d d (pops_none d)

  -- one token taken
  take_one : (a : ℕ) → nat_lt 0 (d.seen a) ≡ true → (c : ℕ) → Pops d (popped d a) c
  take_one a h = pops_more d d a (pops_none d) (ltb-true _ _ h) (sound.seen a)

  -- and one of another channel
  take_two : (a b : ℕ) → a ≢ b → nat_lt 0 (d.seen a) ≡ true → nat_lt 0 (d.seen b) ≡ true → (c : ℕ) → Pops d (popped (popped d a) b) c
  unfolding popped pop
  take_two a b apart h k =
      let n : b ≢ a = λ e. apart (sym e) in
      let s = at-other d.seen a (d.seen a - 1) b n in
      let t = ap length (at-other d.state.tokens a (rest_of (d.state.tokens a)) b n) in
      let l = ltb-true _ _ k in
      pops_more d (popped d a) b (take_one a h) (omega (arith, s, l)) (omega (arith, s, t, sound.seen b))

  give_one : (b : ℕ) (x : Token) → nat_lt 0 (d.credit b) ≡ true → (c : ℕ) → Shifts d (pushed d b x) c
  give_one b x h = shifts_more d d b x untouched (ltb-true _ _ h)

  give_two : (a b : ℕ) (x y : Token) → b ≢ a → nat_lt 0 (d.credit a) ≡ true → nat_lt 0 (d.credit b) ≡ true →
      (c : ℕ) → Shifts d (pushed (pushed d a x) b y) c
  unfolding pushed
  give_two a b x y apart h k =
      let s = at-other d.credit a (d.credit a - 1) b apart in
      let l = ltb-true _ _ k in
      shifts_more d (pushed d a x) b y (give_one a x h) (omega (arith, s, l))

  move_one : (a b : ℕ) (x : Token) → nat_lt 0 (d.seen a) ≡ true → nat_lt 0 (d.credit b) ≡ true →
      (c : ℕ) → Shifts d (pushed (popped d a) b x) c
  unfolding popped
  move_one a b x h k = shifts_more d (popped d a) b x (shifts_of d (popped d a) (take_one a h)) (ltb-true _ _ k)

  move_two : (a b o : ℕ) (x : Token) → a ≢ b → nat_lt 0 (d.seen a) ≡ true → nat_lt 0 (d.seen b) ≡ true → nat_lt 0 (d.credit o) ≡ true →
      (c : ℕ) → Shifts d (pushed (popped (popped d a) b) o x) c
  unfolding popped
  move_two a b o x apart h k r =
      shifts_more d (popped (popped d a) b) o x (shifts_of d (popped (popped d a) b) (take_two a b apart h k)) (ltb-true _ _ r)

  three_there : (cs : List ℕ) (k n : ℕ) → length cs ≡ n → k < n → Has cs (slice_index cs k)
  three_there cs k n e l = has-nth cs k (omega (arith, e, l))

  module _ (q : Proc) (stands : slice_get net.procs p ≡ Some q) where
    reads_there : (k : ℕ) → k < length q.ins → in_of q k < length net.chans
    reads_there k l =
        all-has (λ c. c < length net.chans) q.ins
        (all_of_one (λ c. c < length net.chans) (λ (x : Proc). x.ins) net.procs p q stands typed.reads) (in_of q k) (has-nth q.ins k l)

    writes_there : (k : ℕ) → k < length q.outs → out_of q k < length net.chans
    writes_there k l =
        all-has (λ c. c < length net.chans) q.outs
        (all_of_one (λ c. c < length net.chans) (λ (x : Proc). x.outs) net.procs p q stands typed.writes) (out_of q k) (has-nth q.outs k l)

    join_apart : FitsKind kinds.Join tree typed.widths q → in_of q 0 ≢ in_of q 1
    join_apart fits =
        let long : length q.ins ≡ 2 = ap length fits.ins in
        first_apart (λ (x : Proc). x.ins) net.procs (in_of q 0) p q (in_of q 1 ∷ []) stands fits.ins
        (typed.channels (in_of q 0) (reads_there 0 (omega (arith, long)))).read (in_of q 1) (inl refl)

    head_apart : FitsKind kinds.Head tree typed.widths q → in_of q 0 ≢ in_of q 2
    head_apart fits =
        let long : length q.ins ≡ 3 = ap length fits.ins in
        first_apart (λ (x : Proc). x.ins) net.procs (in_of q 0) p q (in_of q 1 ∷ (in_of q 2 ∷ [])) stands fits.ins
        (typed.channels (in_of q 0) (reads_there 0 (omega (arith, long)))).read (in_of q 2) (inr (inl refl))

    tail_apart : FitsKind kinds.Tail tree typed.widths q → out_of q 2 ≢ out_of q 0
    tail_apart fits =
        let long : length q.outs ≡ 3 = ap length fits.outs in
        λ e. first_apart (λ (x : Proc). x.outs) net.procs (out_of q 0) p q (out_of q 1 ∷ (out_of q 2 ∷ [])) stands fits.outs
        (typed.channels (out_of q 0) (writes_there 0 (omega (arith, long)))).written (out_of q 2) (inr (inl refl)) (sym e)

    module _ (t : State) (way : Sees tree leaf net (view d) d.state p t) where
      scatter_taken : row_ways kinds.Scatter tree leaf (view d) d.state p (d.state.own p) q t → IsTaken tree leaf net d t
      unfolding row_ways scatter.fire scatter.element_sent popped pushed pop push set_own
      scatter_taken w =
          elim (cases_Bool (has_first (d.state.own p).held)) [
            | inl e ↦
                done t _ way (give_one (scatter.line_of (d.state.own p) q) _ (sym (cond-true _ _ _ e) ∙ w.0))
                (λ c. ap (λ u. u.tokens c) (w.1 ∙ cond-true _ _ _ e))
            | inr e ↦
                done t _ way (shifts_of d _ (take_one (in_of q 0) (sym (cond-false _ _ _ e) ∙ w.0)))
                (λ c. ap (λ u. u.tokens c) (w.1 ∙ cond-false _ _ _ e))
          ]

      gather_taken : row_ways kinds.Gather tree leaf (view d) d.state p (d.state.own p) q t → IsTaken tree leaf net d t
      unfolding row_ways gather.fire gather.whole_sent popped pushed pop push set_own
      gather_taken w =
          elim (cases_Bool (gather.is_full tree (d.state.own p) q)) [
            | inl e ↦
                done t _ way (give_one (out_of q 0) _ (sym (cond-true _ _ _ e) ∙ w.0))
                (λ c. ap (λ u. u.tokens c) (w.1 ∙ cond-true _ _ _ e))
            | inr e ↦
                done t _ way (shifts_of d _ (take_one (gather.line_of (d.state.own p) q) (sym (cond-false _ _ _ e) ∙ w.0)))
                (λ c. ap (λ u. u.tokens c) (w.1 ∙ cond-false _ _ _ e))
          ]

      split_taken : row_ways kinds.Split tree leaf (view d) d.state p (d.state.own p) q t → IsTaken tree leaf net d t
      unfolding row_ways split.fire split.segment_sent popped pushed pop push set_own
      split_taken w =
          elim (cases_Bool (has_first (d.state.own p).held)) [
            | inl e ↦
                done t _ way
                (give_one (out_of q (d.state.own p).number) _ (second_of_two _ _ (sym (cond-true _ _ _ e) ∙ w.0)))
                (λ c. ap (λ u. u.tokens c) (w.1 ∙ cond-true _ _ _ e))
            | inr e ↦
                done t _ way (shifts_of d _ (take_one (in_of q 0) (sym (cond-false _ _ _ e) ∙ w.0)))
                (λ c. ap (λ u. u.tokens c) (w.1 ∙ cond-false _ _ _ e))
          ]

      fold_gather_taken : row_ways kinds.FoldGather tree leaf (view d) d.state p (d.state.own p) q t → IsTaken tree leaf net d t
      unfolding row_ways fold_gather.fire fold_gather.fold_sent popped pushed pop push set_own
      fold_gather_taken w =
          elim (cases_Bool (fold_gather.is_full (d.state.own p) q)) [
            | inl e ↦
                done t _ way (give_one (out_of q 0) _ (sym (cond-true _ _ _ e) ∙ w.0))
                (λ c. ap (λ u. u.tokens c) (w.1 ∙ cond-true _ _ _ e))
            | inr e ↦
                done t _ way (shifts_of d _ (take_one (fold_gather.line_of (d.state.own p) q) (sym (cond-false _ _ _ e) ∙ w.0)))
                (λ c. ap (λ u. u.tokens c) (w.1 ∙ cond-false _ _ _ e))
          ]

      turn_taken : (turn : tail.Turn) → nat_lt 0 (d.seen (in_of q 0)) ≡ true → nat_lt 0 (d.credit (out_of q 1)) ≡ true → (x : Token) →
          t ≡ tail.take_turn turn d.state p (d.state.own p) q x → IsTaken tree leaf net d t
      unfolding tail.take_turn popped pushed pop push set_own
      turn_taken (tail.Turn.Held outcome) h k x e =
          done t _ way (shifts_of d _ (take_one (in_of q 0) h)) (λ c. ap (λ u. u.tokens c) e)
      turn_taken tail.Turn.Again h k x e = done t _ way (move_one (in_of q 0) (out_of q 1) _ h k) (λ c. ap (λ u. u.tokens c) e)

      row_taken : (k : ProcKind) → FitsKind k tree typed.widths q → row_ways k tree leaf (view d) d.state p (d.state.own p) q t →
          IsTaken tree leaf net d t
      unfolding row_ways source.fire sink.fire run.fire emit.sent_to collect.taken_from join.fire head.sent_round head.let_in tail.release popped pushed pop push set_own
      row_taken kinds.Source fits w =
          done t _ way (give_one (out_of q 0) _ (second_of_two _ _ w.0)) (λ c. ap (λ u. u.tokens c) w.1)
      row_taken kinds.Sink fits w = done t _ way (shifts_of d _ (take_one (in_of q 0) w.1)) (λ c. ap (λ u. u.tokens c) w.2)
      row_taken kinds.Run fits w =
          done t _ way (move_one (in_of q 0) (out_of q 0) _ (first_of_two _ _ w.0) (second_of_two _ _ w.0))
          (λ c. ap (λ u. u.tokens c) w.1)
      row_taken kinds.Emit fits w =
          done t _ way (move_one (in_of q 0) (slice_index q.outs w.at) _ w.full w.room) (λ c. ap (λ u. u.tokens c) w.is)
      row_taken kinds.Collect fits w =
          done t _ way (move_one (slice_index q.ins w.at) (out_of q 0) _ w.full w.room) (λ c. ap (λ u. u.tokens c) w.is)
      row_taken kinds.Scatter fits w = scatter_taken w
      row_taken kinds.Gather fits w = gather_taken w
      row_taken kinds.Split fits w = split_taken w
      row_taken kinds.FoldGather fits w = fold_gather_taken w
      row_taken kinds.Join fits w =
          let rest = second_of_two _ _ w.0 in
          done t _ way
          (move_two (in_of q 0) (in_of q 1) (out_of q 0) _ (join_apart fits) (first_of_two _ _ w.0) (first_of_two _ _ rest)
          (second_of_two _ _ rest)) (λ c. ap (λ u. u.tokens c) w.1)
      row_taken kinds.Head fits (inl w) =
          done t _ way (move_one (in_of q 1) (out_of q 0) _ w.back w.room) (λ c. ap (λ u. u.tokens c) w.is)
      row_taken kinds.Head fits (inr w) =
          done t _ way (move_two (in_of q 0) (in_of q 2) (out_of q 0) _ (head_apart fits) w.full w.credit w.room)
          (λ c. ap (λ u. u.tokens c) w.is)
      row_taken kinds.Tail fits (inl w) =
          done t _ way (give_two (out_of q 0) (out_of q 2) _ _ (tail_apart fits) w.room w.credits) (λ c. ap (λ u. u.tokens c) w.is)
      row_taken kinds.Tail fits (inr w) = turn_taken _ w.full w.room _ w.is

  taken_at : (t : State) (x : Option Proc) → slice_get net.procs p ≡ x → Sees tree leaf net (view d) d.state p t → IsTaken tree leaf net d t
  taken_at t None e way = absurd (no_way tree leaf net (view d) d.state p t e way)
  taken_at t (Some q) e way =
      row_taken q e t way q.kind (typed.processes p q e) (ways_at tree leaf net d.state p t q e (view d) way)

pub way_taken : EveryWayCanBeTaken
way_taken tree leaf net typed d p t sound way = taken_at tree leaf net typed d sound p t (slice_get net.procs p) refl way
