-- The ways to fire: each firing by the table is one; where there is one the process is ready; who knows more has all ways of who
-- knows less; and of the kinds with one way it is the firing by the table.
use Rattle.std.proofs.Common.{◌≡◌, ℕ, Bool, true, false, ◌&&◌, ◌||◌, ◌⊎◌, inl, inr, cond, is_some, Option, Some, None, List, [], ◌∷◌, slice_get, slice_index, refl, sym, ap, ◌∙◌, subst}
use Rattle.std.proofs.lemmas.Bool.{and_parts, and_from, cases_Bool, cond-true, cond-false, not-true}
use Rattle.p3l_skel.specs.declared.tree.Tree.{Tree}
use Rattle.p3l_firing.specs.declared.process.Proc.{Proc}
use Rattle.p3l_firing.specs.declared.process.ProcKind.{ProcKind}
use Rattle.p3l_firing.specs.declared.process.ProcKind.TheVariants as kinds
use Rattle.p3l_firing.specs.declared.net.Net.{Net}
use Rattle.p3l_firing.specs.declared.token.Token.{Token}
use Rattle.p3l_firing.specs.Lists.{has_first}
use Rattle.p3l_firing.specs.Token.{has_trap}
use Rattle.p3l_firing.specs.Nodes.{Leaf}
use Rattle.p3l_firing.specs.State.{LocalState, State}
use Rattle.p3l_firing.specs.Process.{in_of}
use Rattle.p3l_firing.specs.Fire.{row_can, row_fire, ready_of, fire_of, is_ready, can_fire, fire}
use Rattle.p3l_firing.specs.Ways.{Eyes, eyes_of, Knows, Deals, Collects, SendsRound, LetsIn, LetsOut, TakesTurn, row_ways, ways_of, Sees, MayFire, IsStrict}
use Rattle.p3l_firing.specs.kinds.Source as source
use Rattle.p3l_firing.specs.kinds.Sink as sink
use Rattle.p3l_firing.specs.kinds.Run as run
use Rattle.p3l_firing.specs.kinds.Emit as emit
use Rattle.p3l_firing.specs.kinds.Collect as collect
use Rattle.p3l_firing.specs.kinds.Scatter as scatter
use Rattle.p3l_firing.specs.kinds.Gather as gather
use Rattle.p3l_firing.specs.kinds.Split as split
use Rattle.p3l_firing.specs.kinds.FoldGather as fold_gather
use Rattle.p3l_firing.specs.kinds.Join as join
use Rattle.p3l_firing.specs.kinds.Head as head
use Rattle.p3l_firing.specs.kinds.Tail as tail
use Rattle.p3l_firing.proofs.ChoiceLaw.{emptiest_is, due_in_is}
use Rattle.p3l_firing.proofs.Rows.{ready_at, fire_at}

-- OF WHICH KINDS THERE IS ONE WAY
pub strict_row : (net : Net) (tree : Tree) (leaf : Leaf) (s t : State) (p : ℕ) (o : LocalState) (q : Proc) (k : ProcKind) → IsStrict k →
    row_ways k tree leaf (eyes_of net s) s p o q t → (row_can k tree net s o q ≡ true) × (t ≡ row_fire k tree leaf net s p o q)
unfolding IsStrict row_ways row_can row_fire source.can sink.can run.can scatter.can gather.can split.can fold_gather.can join.can
strict_row net tree leaf s t p o q kinds.Source h w = w
strict_row net tree leaf s t p o q kinds.Sink h w = (w.1, w.2)
strict_row net tree leaf s t p o q kinds.Run h w = w
strict_row net tree leaf s t p o q kinds.Emit h w = absurd h
strict_row net tree leaf s t p o q kinds.Collect h w = absurd h
strict_row net tree leaf s t p o q kinds.Scatter h w = w
strict_row net tree leaf s t p o q kinds.Gather h w = w
strict_row net tree leaf s t p o q kinds.Split h w = w
strict_row net tree leaf s t p o q kinds.FoldGather h w = w
strict_row net tree leaf s t p o q kinds.Join h w = w
strict_row net tree leaf s t p o q kinds.Head h w = absurd h
strict_row net tree leaf s t p o q kinds.Tail h w = absurd h

pub strict_source : IsStrict kinds.Source
unfolding IsStrict
strict_source = tt

pub strict_sink : IsStrict kinds.Sink
unfolding IsStrict
strict_sink = tt

pub strict_run : IsStrict kinds.Run
unfolding IsStrict
strict_run = tt

pub strict_scatter : IsStrict kinds.Scatter
unfolding IsStrict
strict_scatter = tt

pub strict_gather : IsStrict kinds.Gather
unfolding IsStrict
strict_gather = tt

pub strict_split : IsStrict kinds.Split
unfolding IsStrict
strict_split = tt

pub strict_fold_gather : IsStrict kinds.FoldGather
unfolding IsStrict
strict_fold_gather = tt

pub strict_join : IsStrict kinds.Join
unfolding IsStrict
strict_join = tt

-- EACH FIRING BY THE TABLE IS A WAY
or_right : (x y : Bool) → x ≡ false → (x || y) ≡ true → y ≡ true
or_right true y h k = cc
or_right false y h k = k

or_left : (x y : Bool) → x ≡ true → (x || y) ≡ true
or_left true y h = refl
or_left false y h = cc

or_second : (x y : Bool) → y ≡ true → (x || y) ≡ true
or_second true y h = refl
or_second false y h = h

front_full : (n : ℕ) (ts : List Token) → collect.front_is n ts ≡ true → has_first ts ≡ true
unfolding collect.front_is
front_full n [] e = cc
front_full n (t ∷ ts) e = refl

module _ (tree : Tree) (leaf : Leaf) (net : Net) (s : State) (p : ℕ) (o : LocalState) (q : Proc) where
  emit_way : emit.can net s q ≡ true → Deals (eyes_of net s) s p o q (emit.fire net s p o q)
  unfolding emit.can emit.fire
  emit_way h =
      let both = and_parts _ _ h in
      elim (emptiest_is net s q.outs) [
        | inl f ↦
            record {
              at = f.at;
              below = f.below;
              full = both.0;
              room = f.room;
              is = ap (λ c. emit.sent_to c s p o q) f.is;
            }
        | inr f ↦ let z : false ≡ true = ap is_some (sym f.is) ∙ both.1 in cc
      ]

  collect_way : collect.can net s o q ≡ true → Collects (eyes_of net s) s p o q (collect.fire s p o q)
  unfolding collect.can collect.fire
  collect_way h =
      let both = and_parts _ _ h in
      elim (due_in_is s o.number q.ins) [
        | inl f ↦
            record {
              at = f.at;
              below = f.below;
              full = front_full o.number (s.tokens (slice_index q.ins f.at)) f.front;
              front = f.front;
              room = both.1;
              is = ap (λ c. collect.taken_from c s p o q) f.is;
            }
        | inr f ↦ let z : false ≡ true = ap is_some (sym f.is) ∙ both.0 in cc
      ]

  head_way : head.can net s q ≡ true → SendsRound (eyes_of net s) s q (head.fire s p o q) ⊎ LetsIn (eyes_of net s) s p o q (head.fire s p o q)
  unfolding head.can head.fire
  head_way h =
      let both = and_parts _ _ h in
      elim (cases_Bool (has_first (s.tokens (in_of q 1)))) [
        | inl e ↦ inl (record { room = both.0; back = e; is = cond-true (has_first (s.tokens (in_of q 1))) _ _ e })
        | inr e ↦
            let new = and_parts _ _ (or_right _ _ e both.1) in
            inr (record { room = both.0; full = new.0; credit = new.1; is = cond-false (has_first (s.tokens (in_of q 1))) _ _ e })
      ]

  tail_way : tail.can net s o q ≡ true → LetsOut (eyes_of net s) s p o q (tail.fire tree leaf net s p o q) ⊎ TakesTurn tree leaf (eyes_of net s) s p o q (tail.fire tree leaf net s p o q)
  unfolding tail.can tail.fire tail.can_release
  tail_way h =
      elim (cases_Bool (tail.can_release net s o q)) [
        | inl e ↦
            let a = and_parts _ _ e in
            let b = and_parts _ _ a.1 in
            inl (record { holds = a.0; room = b.0; credits = b.1; is = cond-true (tail.can_release net s o q) _ _ e })
        | inr e ↦
            let a = and_parts _ _ (or_right _ _ e h) in
            inr (record { full = a.0; room = a.1; is = cond-false (tail.can_release net s o q) _ _ e })
      ]

  pub row_way : (k : ProcKind) → has_trap s.emitted ≡ false → row_can k tree net s o q ≡ true →
      row_ways k tree leaf (eyes_of net s) s p o q (row_fire k tree leaf net s p o q)
  unfolding row_ways row_can row_fire source.can sink.can run.can scatter.can gather.can split.can fold_gather.can join.can
  row_way kinds.Source untrapped h = (h, refl)
  row_way kinds.Sink untrapped h = (untrapped, h, refl)
  row_way kinds.Run untrapped h = (h, refl)
  row_way kinds.Emit untrapped h = emit_way h
  row_way kinds.Collect untrapped h = collect_way h
  row_way kinds.Scatter untrapped h = (h, refl)
  row_way kinds.Gather untrapped h = (h, refl)
  row_way kinds.Split untrapped h = (h, refl)
  row_way kinds.FoldGather untrapped h = (h, refl)
  row_way kinds.Join untrapped h = (h, refl)
  row_way kinds.Head untrapped h = head_way h
  row_way kinds.Tail untrapped h = tail_way h

  -- WHERE THERE IS A WAY THE PROCESS IS READY
  emit_can : (t : State) → Deals (eyes_of net s) s p o q t → emit.can net s q ≡ true
  unfolding emit.can
  emit_can t w =
      elim (emptiest_is net s q.outs) [
        | inl f ↦ and_from _ _ w.full (ap is_some f.is)
        | inr f ↦ let z : true ≡ false = sym w.room ∙ f.rooms w.at w.below in cc
      ]

  collect_can : (t : State) → Collects (eyes_of net s) s p o q t → collect.can net s o q ≡ true
  unfolding collect.can
  collect_can t w =
      elim (due_in_is s o.number q.ins) [
        | inl f ↦ and_from _ _ (ap is_some f.is) w.room
        | inr f ↦ let z : true ≡ false = sym w.front ∙ f.fronts w.at w.below in cc
      ]

  pub way_can : (t : State) (k : ProcKind) → row_ways k tree leaf (eyes_of net s) s p o q t → row_can k tree net s o q ≡ true
  unfolding row_ways row_can source.can sink.can run.can scatter.can gather.can split.can fold_gather.can join.can head.can tail.can tail.can_release
  way_can t kinds.Source w = w.0
  way_can t kinds.Sink w = w.1
  way_can t kinds.Run w = w.0
  way_can t kinds.Emit w = emit_can t w
  way_can t kinds.Collect w = collect_can t w
  way_can t kinds.Scatter w = w.0
  way_can t kinds.Gather w = w.0
  way_can t kinds.Split w = w.0
  way_can t kinds.FoldGather w = w.0
  way_can t kinds.Join w = w.0
  way_can t kinds.Head (inl w) = and_from _ _ w.room (or_left _ _ w.back)
  way_can t kinds.Head (inr w) = and_from _ _ w.room (or_second _ _ (and_from _ _ w.full w.credit))
  way_can t kinds.Tail (inl w) = or_left _ _ (and_from _ _ w.holds (and_from _ _ w.room w.credits))
  way_can t kinds.Tail (inr w) = or_second _ _ (and_from _ _ w.full w.room)

-- WHO KNOWS MORE HAS ALL WAYS
and_more : (x y v w : Bool) → (x ≡ true → v ≡ true) → (y ≡ true → w ≡ true) → (x && y) ≡ true → (v && w) ≡ true
and_more x y v w f g h = let both = and_parts x y h in and_from _ _ (f both.0) (g both.1)

cond_more : (b x y v w : Bool) → (x ≡ true → v ≡ true) → (y ≡ true → w ≡ true) → cond b x y ≡ true → cond b v w ≡ true
cond_more true x y v w f g h = f h
cond_more false x y v w f g h = g h

module _ (tree : Tree) (leaf : Leaf) (e f : Eyes) (more : Knows e f) (s : State) (p : ℕ) (o : LocalState) (q : Proc) (t : State) where
  pub more_ways : (k : ProcKind) → row_ways k tree leaf e s p o q t → row_ways k tree leaf f s p o q t
  unfolding row_ways
  more_ways kinds.Source w = (and_more _ _ _ _ (λ h. h) (more.rooms _) w.0, w.1)
  more_ways kinds.Sink w = (w.0, more.fronts _ w.1, w.2)
  more_ways kinds.Run w = (and_more _ _ _ _ (more.fronts _) (more.rooms _) w.0, w.1)
  more_ways kinds.Emit w = record { at = w.at; below = w.below; full = more.fronts _ w.full; room = more.rooms _ w.room; is = w.is }
  more_ways kinds.Collect w =
      record { at = w.at; below = w.below; full = more.fronts _ w.full; front = w.front; room = more.rooms _ w.room; is = w.is }
  more_ways kinds.Scatter w = (cond_more _ _ _ _ _ (more.rooms _) (more.fronts _) w.0, w.1)
  more_ways kinds.Gather w = (cond_more _ _ _ _ _ (more.rooms _) (more.fronts _) w.0, w.1)
  more_ways kinds.Split w = (cond_more _ _ _ _ _ (and_more _ _ _ _ (λ h. h) (more.rooms _)) (more.fronts _) w.0, w.1)
  more_ways kinds.FoldGather w = (cond_more _ _ _ _ _ (more.rooms _) (more.fronts _) w.0, w.1)
  more_ways kinds.Join w = (and_more _ _ _ _ (more.fronts _) (and_more _ _ _ _ (more.fronts _) (more.rooms _)) w.0, w.1)
  more_ways kinds.Head (inl w) = inl (record { room = more.rooms _ w.room; back = more.fronts _ w.back; is = w.is })
  more_ways kinds.Head (inr w) =
      inr (record { room = more.rooms _ w.room; full = more.fronts _ w.full; credit = more.fronts _ w.credit; is = w.is })
  more_ways kinds.Tail (inl w) =
      inl (record { holds = w.holds; room = more.rooms _ w.room; credits = more.rooms _ w.credits; is = w.is })
  more_ways kinds.Tail (inr w) = inr (record { full = more.fronts _ w.full; room = more.rooms _ w.room; is = w.is })

-- OF A WHOLE NET
module _ (tree : Tree) (leaf : Leaf) (net : Net) where
  of_more : (e f : Eyes) → Knows e f → (s : State) (p : ℕ) (o : LocalState) (t : State) (q : Option Proc) →
      ways_of q tree leaf e s p o t → ways_of q tree leaf f s p o t
  unfolding ways_of
  of_more e f more s p o t None w = w
  of_more e f more s p o t (Some q) w = more_ways tree leaf e f more s p o q t q.kind w

  -- who knows more can fire in all ways
  pub sees_more : (e f : Eyes) → Knows e f → (s : State) (p : ℕ) (t : State) → Sees tree leaf net e s p t → Sees tree leaf net f s p t
  unfolding Sees
  sees_more e f more s p t w = of_more e f more s p (s.own p) t (slice_get net.procs p) w

  of_can : (s : State) (p : ℕ) (o : LocalState) (q : Option Proc) → has_trap s.emitted ≡ false → ready_of q tree net s o ≡ true →
      ways_of q tree leaf (eyes_of net s) s p o (fire_of q tree leaf net s p o)
  unfolding ready_of ways_of fire_of
  of_can s p o None untrapped h = cc
  of_can s p o (Some q) untrapped h = row_way tree leaf net s p o q q.kind untrapped h

  -- the firing by the table is one of the ways
  pub fire_is_a_way : (s : State) (p : ℕ) → can_fire tree net s p ≡ true → MayFire tree leaf net s p (fire tree leaf net s p)
  unfolding can_fire is_ready fire Sees
  fire_is_a_way s p h =
      let both = and_parts _ _ h in
      of_can s p (s.own p) (slice_get net.procs p) (not-true _ both.0) both.1

  of_ready : (s : State) (p : ℕ) (o : LocalState) (t : State) (q : Option Proc) → ways_of q tree leaf (eyes_of net s) s p o t →
      ready_of q tree net s o ≡ true
  unfolding ready_of ways_of
  of_ready s p o t None w = absurd w
  of_ready s p o t (Some q) w = way_can tree leaf net s p o q t q.kind w

  -- and where there is any the process is ready
  pub way_is_ready : (s : State) (p : ℕ) (t : State) → MayFire tree leaf net s p t → is_ready tree net s p ≡ true
  unfolding is_ready Sees
  way_is_ready s p t w = of_ready s p (s.own p) t (slice_get net.procs p) w

  module _ (s : State) (p : ℕ) (t : State) (q : Proc) (stands : slice_get net.procs p ≡ Some q) where
    pub ways_at : (e : Eyes) → Sees tree leaf net e s p t → row_ways q.kind tree leaf e s p (s.own p) q t
    unfolding Sees ways_of
    ways_at e w = subst (λ x. ways_of x tree leaf e s p (s.own p) t) stands w

  -- a process of one of the kinds with one way fires by the table
  pub one_way : (s t : State) (p : ℕ) (q : Proc) → slice_get net.procs p ≡ Some q → IsStrict q.kind → MayFire tree leaf net s p t →
      (is_ready tree net s p ≡ true) × (t ≡ fire tree leaf net s p)
  one_way s t p q stands strict w =
      let r = strict_row net tree leaf s t p (s.own p) q q.kind strict (ways_at s p t q stands (eyes_of net s) w) in
      (ready_at tree net s p q stands ∙ r.0, r.1 ∙ sym (fire_at tree net s p q stands leaf))

  -- the sink fires only before a trap was emitted
  pub sink_is_calm : (s t : State) (p : ℕ) (q : Proc) → slice_get net.procs p ≡ Some q → q.kind ≡ kinds.Sink →
      MayFire tree leaf net s p t → has_trap s.emitted ≡ false
  unfolding row_ways
  sink_is_calm s t p q stands kind w =
      let r : row_ways kinds.Sink tree leaf (eyes_of net s) s p (s.own p) q t =
      subst (λ k. row_ways k tree leaf (eyes_of net s) s p (s.own p) q t) kind (ways_at s p t q stands (eyes_of net s) w) in
      r.0

  -- no process has a way
  pub no_way : (e : Eyes) (s : State) (p : ℕ) (t : State) → slice_get net.procs p ≡ None → Sees tree leaf net e s p t → ⊥
  unfolding Sees ways_of
  no_way e s p t none w = subst (λ x. ways_of x tree leaf e s p (s.own p) t) none w
