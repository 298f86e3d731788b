-- Of the outcomes emitted earlier a firing reads nothing but whether one is a trap, and a sink puts its outcome after them.
use Rattle.std.proofs.Common.{◌≡◌, ℕ, ◌+◌, not, ◌&&◌, cond, Bool, true, false, List, [], ◌∷◌, ◌++◌, Option, Some, None, slice_get, refl, sym, ap, ap₂, ◌∙◌, inl, inr, append_assoc}
use Rattle.std.proofs.lemmas.Bool.{cases_Bool, cond-true, cond-false}
use Rattle.p3l_base.specs.declared.outcome.Outcome.{Outcome}
use Rattle.p3l_base.specs.declared.outcome.Outcome.TheVariants.{Value, Trapped}
use Rattle.p3l_skel.specs.declared.tree.Tree.{Tree}
use Rattle.p3l_firing.specs.declared.process.Proc.{Proc}
use Rattle.p3l_firing.specs.declared.process.ProcKind.{ProcKind}
use Rattle.p3l_firing.specs.declared.process.ProcKind.TheVariants as kinds
use Rattle.p3l_firing.specs.declared.net.Net.{Net}
use Rattle.p3l_firing.specs.declared.token.Token.{Token}
use Rattle.p3l_firing.specs.Lists.{has_first}
use Rattle.p3l_firing.specs.Token.{has_trap}
use Rattle.p3l_firing.specs.Nodes.{Leaf}
use Rattle.p3l_firing.specs.State.{LocalState, State, front, push, pop, set_own, has_room, holding, gathering}
use Rattle.p3l_firing.specs.Process.{in_of}
use Rattle.p3l_firing.specs.Fire.{row_fire, fire_of, can_fire, fire}
use Rattle.p3l_firing.specs.Run.{Course, picked, after_picks, course_from, run_from}
use Rattle.p3l_firing.specs.kinds.Source as source
use Rattle.p3l_firing.specs.kinds.Sink as sink
use Rattle.p3l_firing.specs.kinds.Run as run
use Rattle.p3l_firing.specs.kinds.Emit as emit
use Rattle.p3l_firing.specs.kinds.Collect as collect
use Rattle.p3l_firing.specs.kinds.Scatter as scatter
use Rattle.p3l_firing.specs.kinds.Gather as gather
use Rattle.p3l_firing.specs.kinds.Split as split
use Rattle.p3l_firing.specs.kinds.FoldGather as fold_gather
use Rattle.p3l_firing.specs.kinds.Join as join
use Rattle.p3l_firing.specs.kinds.Head as head
use Rattle.p3l_firing.specs.kinds.Tail as tail
use Rattle.p3l_firing.proofs.Reading.{SameIn, same-everywhere}
use Rattle.p3l_firing.proofs.row.{ready-emitted}
use Rattle.p3l_firing.proofs.row.Emit.{emptiest-same}
use Rattle.p3l_firing.proofs.row.Collect.{due-same}
use Rattle.p3l_firing.specs.Cut.{run_with_earlier, with_earlier}

trap-earlier : (earlier es : List Outcome) → has_trap earlier ≡ false → has_trap (earlier ++ es) ≡ has_trap es
unfolding has_trap
trap-earlier [] es h = refl
trap-earlier (Value words ∷ earlier) es h = trap-earlier earlier es h
trap-earlier (Trapped trap ∷ earlier) es h = cc

module _ (earlier : List Outcome) where
  cond-earlier : (b : Bool) (x y : State) → cond b (with_earlier earlier x) (with_earlier earlier y) ≡ with_earlier earlier (cond b x y)
  cond-earlier true x y = refl
  cond-earlier false x y = refl

  same_tokens : (s : State) (cs : List ℕ) → SameIn (with_earlier earlier s) s cs
  same_tokens s cs = same-everywhere (with_earlier earlier s) s (λ c. refl) cs

  sink-earlier : (s : State) (q : Proc) → sink.fire (with_earlier earlier s) q ≡ with_earlier earlier (sink.fire s q)
  unfolding sink.fire pop
  sink-earlier s q =
      ap (λ es. record (pop s (in_of q 0)) { emitted = es }) (append_assoc earlier s.emitted ((front s (in_of q 0)).body ∷ []))

  sent_to-earlier : (c : Option ℕ) (s : State) (p : ℕ) (o : LocalState) (q : Proc) → emit.sent_to c (with_earlier earlier s) p o q ≡ with_earlier earlier (emit.sent_to c s p o q)
  unfolding emit.sent_to push pop set_own
  sent_to-earlier None s p o q = refl
  sent_to-earlier (Some c) s p o q = refl

  emit-earlier : (net : Net) (s : State) (p : ℕ) (o : LocalState) (q : Proc) → emit.fire net (with_earlier earlier s) p o q ≡ with_earlier earlier (emit.fire net s p o q)
  unfolding emit.fire
  emit-earlier net s p o q =
      ap (λ c. emit.sent_to c (with_earlier earlier s) p o q) (emptiest-same net (with_earlier earlier s) s q.outs (same_tokens s q.outs))
      ∙ sent_to-earlier (emit.emptiest net s q.outs) s p o q

  taken_from-earlier : (c : Option ℕ) (s : State) (p : ℕ) (o : LocalState) (q : Proc) → collect.taken_from c (with_earlier earlier s) p o q ≡ with_earlier earlier (collect.taken_from c s p o q)
  unfolding collect.taken_from push pop set_own
  taken_from-earlier None s p o q = refl
  taken_from-earlier (Some c) s p o q = refl

  collect-earlier : (s : State) (p : ℕ) (o : LocalState) (q : Proc) → collect.fire (with_earlier earlier s) p o q ≡ with_earlier earlier (collect.fire s p o q)
  unfolding collect.fire
  collect-earlier s p o q =
      ap (λ c. collect.taken_from c (with_earlier earlier s) p o q) (due-same (with_earlier earlier s) s o.number q.ins (same_tokens s q.ins))
      ∙ taken_from-earlier (collect.due_in s o.number q.ins) s p o q

  turn-earlier : (turn : tail.Turn) (s : State) (p : ℕ) (o : LocalState) (q : Proc) (x : Token) → tail.take_turn turn (with_earlier earlier s) p o q x ≡ with_earlier earlier (tail.take_turn turn s p o q x)
  unfolding tail.take_turn push pop set_own
  turn-earlier (tail.Turn.Held outcome) s p o q x = refl
  turn-earlier tail.Turn.Again s p o q x = refl

  release-earlier : (s : State) (p : ℕ) (o : LocalState) (q : Proc) → tail.release (with_earlier earlier s) p o q ≡ with_earlier earlier (tail.release s p o q)
  unfolding tail.release push pop set_own
  release-earlier s p o q = refl

  can_release-earlier : (net : Net) (s : State) (o : LocalState) (q : Proc) → tail.can_release net (with_earlier earlier s) o q ≡ tail.can_release net s o q
  unfolding tail.can_release has_room
  can_release-earlier net s o q = refl

  module _ (tree : Tree) (leaf : Leaf) (net : Net) (s : State) (p : ℕ) (o : LocalState) (q : Proc) where
    scatter-earlier : scatter.fire tree (with_earlier earlier s) p o q ≡ with_earlier earlier (scatter.fire tree s p o q)
    unfolding scatter.fire scatter.element_sent push pop set_own
    scatter-earlier = cond-earlier (has_first o.held) (scatter.element_sent tree s p o q) (set_own (pop s (in_of q 0)) p (holding (front s (in_of q 0))))

    gather-earlier : gather.fire tree (with_earlier earlier s) p o q ≡ with_earlier earlier (gather.fire tree s p o q)
    unfolding gather.fire gather.whole_sent push pop set_own
    gather-earlier = cond-earlier (gather.is_full tree o q) (gather.whole_sent tree s p o q) (set_own (pop s (gather.line_of o q)) p (gathering o (front s (gather.line_of o q))))

    split-earlier : split.fire tree (with_earlier earlier s) p o q ≡ with_earlier earlier (split.fire tree s p o q)
    unfolding split.fire split.segment_sent push pop set_own
    split-earlier = cond-earlier (has_first o.held) (split.segment_sent tree s p o q) (set_own (pop s (in_of q 0)) p (holding (front s (in_of q 0))))

    fold-earlier : fold_gather.fire tree leaf (with_earlier earlier s) p o q ≡ with_earlier earlier (fold_gather.fire tree leaf s p o q)
    unfolding fold_gather.fire fold_gather.fold_sent push pop set_own
    fold-earlier = cond-earlier (fold_gather.is_full o q) (fold_gather.fold_sent tree leaf s p o q) (set_own (pop s (fold_gather.line_of o q)) p (gathering o (front s (fold_gather.line_of o q))))

    head-earlier : head.fire (with_earlier earlier s) p o q ≡ with_earlier earlier (head.fire s p o q)
    unfolding head.fire head.sent_round head.let_in push pop set_own
    head-earlier = cond-earlier (has_first (s.tokens (in_of q 1))) (head.sent_round s q) (head.let_in s p o q)

    tail-earlier : tail.fire tree leaf net (with_earlier earlier s) p o q ≡ with_earlier earlier (tail.fire tree leaf net s p o q)
    unfolding tail.fire
    tail-earlier =
        let turn : tail.Turn = tail.next_turn tree leaf s q in
        let x : Token = front s (in_of q 0) in
        ap (λ b. cond b (tail.release (with_earlier earlier s) p o q) (tail.take_turn turn (with_earlier earlier s) p o q x)) (can_release-earlier net s o q)
        ∙ ap₂ (λ a b. cond (tail.can_release net s o q) a b) (release-earlier s p o q) (turn-earlier turn s p o q x)
        ∙ cond-earlier (tail.can_release net s o q) (tail.release s p o q) (tail.take_turn turn s p o q x)

    row_fire-earlier : (k : ProcKind) → row_fire k tree leaf net (with_earlier earlier s) p o q ≡ with_earlier earlier (row_fire k tree leaf net s p o q)
    unfolding row_fire source.fire run.fire join.fire push pop
    row_fire-earlier kinds.Source = refl
    row_fire-earlier kinds.Sink = sink-earlier s q
    row_fire-earlier kinds.Run = refl
    row_fire-earlier kinds.Emit = emit-earlier net s p o q
    row_fire-earlier kinds.Collect = collect-earlier s p o q
    row_fire-earlier kinds.Scatter = scatter-earlier
    row_fire-earlier kinds.Gather = gather-earlier
    row_fire-earlier kinds.Split = split-earlier
    row_fire-earlier kinds.FoldGather = fold-earlier
    row_fire-earlier kinds.Join = refl
    row_fire-earlier kinds.Head = head-earlier
    row_fire-earlier kinds.Tail = tail-earlier

  module _ (tree : Tree) (leaf : Leaf) (net : Net) (untrapped : has_trap earlier ≡ false) where
    fire-earlier : (s : State) (p : ℕ) → fire tree leaf net (with_earlier earlier s) p ≡ with_earlier earlier (fire tree leaf net s p)
    unfolding fire fire_of
    fire-earlier s p = of (slice_get net.procs p)
      where
        of : (x : Option Proc) → fire_of x tree leaf net (with_earlier earlier s) p (s.own p) ≡ with_earlier earlier (fire_of x tree leaf net s p (s.own p))
        of None = refl
        of (Some q) = row_fire-earlier tree leaf net s p (s.own p) q q.kind

    can_fire-earlier : (s : State) (p : ℕ) → can_fire tree net (with_earlier earlier s) p ≡ can_fire tree net s p
    unfolding can_fire
    can_fire-earlier s p =
        ap₂ (λ trap ready. not trap && ready) (trap-earlier earlier s.emitted untrapped) (ready-emitted tree net s (earlier ++ s.emitted) p)

    picked-earlier : (c : Course) (p : ℕ) → picked tree leaf net (run_with_earlier earlier c) p ≡ run_with_earlier earlier (picked tree leaf net c p)
    unfolding picked
    picked-earlier c p =
        elim (cases_Bool (can_fire tree net c.state p)) [
          | inl can ↦
              cond-true _ _ _ (can_fire-earlier c.state p ∙ can)
              ∙ ap (λ s. record c { state = s; fired = c.fired + 1 }) (fire-earlier c.state p)
              ∙ ap (run_with_earlier earlier) (sym (cond-true _ _ _ can))
          | inr cannot ↦
              cond-false _ _ _ (can_fire-earlier c.state p ∙ cannot)
              ∙ ap (run_with_earlier earlier) (sym (cond-false _ _ _ cannot))
        ]

    picks-earlier : (c : Course) (picks : List ℕ) → after_picks tree leaf net (run_with_earlier earlier c) picks ≡ run_with_earlier earlier (after_picks tree leaf net c picks)
    unfolding after_picks
    picks-earlier c [] = refl
    picks-earlier c (p ∷ picks) =
        ap (λ x. after_picks tree leaf net x picks) (picked-earlier c p) ∙ picks-earlier (picked tree leaf net c p) picks

    -- a run goes as if nothing had been emitted earlier
    pub run-earlier : (s : State) (picks : List ℕ) → run_from tree leaf net (with_earlier earlier s) picks ≡ run_with_earlier earlier (run_from tree leaf net s picks)
    run-earlier s picks = picks-earlier (course_from s) picks
