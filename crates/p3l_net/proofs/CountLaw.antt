-- Counts rise by one at most at a firing.
use Rattle.std.proofs.Common.{◌≡◌, ℕ, ◌+◌, ◌≤◌, Bool, true, false, cond, Option, Some, None, slice_get, refl, sym, subst, inl, inr, arith}
use Rattle.std.proofs.lemmas.Bool.{cases_eq}
use Rattle.p3l_skel.specs.declared.tree.Tree.{Tree}
use Rattle.p3l_ready.specs.At.{at}
use Rattle.p3l_ready.proofs.AtLemmas.{at-same, at-other}
use Rattle.p3l_firing.specs.declared.net.Net.{Net}
use Rattle.p3l_firing.specs.declared.process.Proc.{Proc}
use Rattle.p3l_firing.specs.declared.process.ProcKind.{ProcKind}
use Rattle.p3l_firing.specs.declared.process.ProcKind.TheVariants as kinds
use Rattle.p3l_firing.specs.declared.token.Token.{Token}
use Rattle.p3l_firing.specs.Fire.{fire, fire_of, row_fire}
use Rattle.p3l_firing.specs.Nodes.{Leaf}
use Rattle.p3l_firing.specs.Process.{out_of}
use Rattle.p3l_firing.specs.State.{LocalState, State, pop, push, set_own, counted, fresh}
use Rattle.p3l_firing.specs.Token.{credit, untagged}
use Rattle.p3l_firing.specs.kinds.Source as source
use Rattle.p3l_firing.specs.kinds.Sink as sink
use Rattle.p3l_firing.specs.kinds.Run as run
use Rattle.p3l_firing.specs.kinds.Emit as emit
use Rattle.p3l_firing.specs.kinds.Collect as collect
use Rattle.p3l_firing.specs.kinds.Scatter as scatter
use Rattle.p3l_firing.specs.kinds.Gather as gather
use Rattle.p3l_firing.specs.kinds.Split as split
use Rattle.p3l_firing.specs.kinds.FoldGather as fold_gather
use Rattle.p3l_firing.specs.kinds.Join as join
use Rattle.p3l_firing.specs.kinds.Head as head
use Rattle.p3l_firing.specs.kinds.Tail as tail

-- from s to n no count rose by more than one
record RoseByOne (s n : State) : Type 0 where
  numbers : (r : ℕ) → (n.own r).number ≤ (s.own r).number + 1
  sent : n.sent ≤ s.sent + 1

-- no local state has changed
kept : (s n : State) → n.own ≡ s.own → n.sent ≤ s.sent + 1 → RoseByOne s n
kept s n same sent = record { numbers = λ r. subst (λ (own : ℕ → LocalState). (own r).number ≤ (s.own r).number + 1) (sym same) (omega arith); sent = sent }

-- one local state has changed
written : (s n : State) (p : ℕ) (o : LocalState) → n.own ≡ s.own → n.sent ≡ s.sent → o.number ≤ (s.own p).number + 1 → RoseByOne s (set_own n p o)
unfolding set_own
written s n p o same sent less = record {
  numbers = λ r.
      elim (cases_eq r p) [
        | inl e ↦
            subst (λ i. (at n.own p o i).number ≤ (s.own i).number + 1) (sym e)
            (subst (λ (x : LocalState). x.number ≤ (s.own p).number + 1) (sym (at-same n.own p o)) less)
        | inr e ↦
            subst (λ (x : LocalState). x.number ≤ (s.own r).number + 1) (sym (at-other n.own p o r e))
            (subst (λ (own : ℕ → LocalState). (own r).number ≤ (s.own r).number + 1) (sym same) (omega arith))
      ];
  sent = omega (arith, sent);
}

either : (b : Bool) (s n m : State) → RoseByOne s n → RoseByOne s m → RoseByOne s (cond b n m)
either true s n m h k = h
either false s n m h k = k

passed : (b : Bool) (o : LocalState) → (cond b (counted o) fresh).number ≤ o.number + 1
passed true o = omega arith
passed false o = omega arith

module _ (s : State) (p : ℕ) (q : Proc) where
  emitted : (net : Net) (chosen : Option ℕ) → RoseByOne s (emit.sent_to chosen s p (s.own p) q)
  unfolding emit.sent_to push pop
  emitted net None = kept s s refl (omega arith)
  emitted net (Some c) = written s _ p (counted (s.own p)) refl refl (omega arith)

  collected : (due : Option ℕ) → RoseByOne s (collect.taken_from due s p (s.own p) q)
  unfolding collect.taken_from push pop
  collected None = kept s s refl (omega arith)
  collected (Some c) = written s _ p (counted (s.own p)) refl refl (omega arith)

  turned : (turn : tail.Turn) (x : Token) → RoseByOne s (tail.take_turn turn s p (s.own p) q x)
  unfolding tail.take_turn push pop
  turned (tail.Turn.Held outcome) x = written s _ p _ refl refl (omega arith)
  turned tail.Turn.Again x = kept s _ refl (omega arith)

  sent_round : RoseByOne s (head.sent_round s q)
  unfolding head.sent_round push pop
  sent_round = kept s (head.sent_round s q) refl (omega arith)

  let_in : RoseByOne s (head.let_in s p (s.own p) q)
  unfolding head.let_in push pop
  let_in = written s _ p (counted (s.own p)) refl refl (omega arith)

  released : RoseByOne s (tail.release s p (s.own p) q)
  unfolding tail.release tail.after_release push
  released =
      written s (push (push s (out_of q 0) (untagged (untagged (tail.pick_number (s.own p).number (s.own p).held)))) (out_of q 2) credit)
      p (tail.after_release (s.own p)) refl refl (omega arith)

  module _ (tree : Tree) (leaf : Leaf) (net : Net) where
    row_rose : (k : ProcKind) → RoseByOne s (row_fire k tree leaf net s p (s.own p) q)
    unfolding row_fire source.fire sink.fire run.fire emit.fire collect.fire scatter.fire scatter.element_sent scatter.after_element gather.fire gather.whole_sent split.fire split.segment_sent split.after_segment fold_gather.fire fold_gather.fold_sent join.fire head.fire tail.fire push pop
    row_rose kinds.Source = kept s _ refl (omega arith)
    row_rose kinds.Sink = kept s _ refl (omega arith)
    row_rose kinds.Run = kept s _ refl (omega arith)
    row_rose kinds.Emit = emitted net _
    row_rose kinds.Collect = collected _
    row_rose kinds.Scatter = either _ s _ _ (written s _ p _ refl refl (passed _ (s.own p))) (written s _ p _ refl refl (omega arith))
    row_rose kinds.Gather = either _ s _ _ (written s _ p _ refl refl (omega arith)) (written s _ p _ refl refl (omega arith))
    row_rose kinds.Split = either _ s _ _ (written s _ p _ refl refl (passed _ (s.own p))) (written s _ p _ refl refl (omega arith))
    row_rose kinds.FoldGather = either _ s _ _ (written s _ p _ refl refl (omega arith)) (written s _ p _ refl refl (omega arith))
    row_rose kinds.Join = kept s _ refl (omega arith)
    row_rose kinds.Head = either _ s _ _ sent_round let_in
    row_rose kinds.Tail = either _ s _ _ released (turned _ _)

of_rose : (stands : Option Proc) (tree : Tree) (leaf : Leaf) (net : Net) (s : State) (p : ℕ) → RoseByOne s (fire_of stands tree leaf net s p (s.own p))
unfolding fire_of
of_rose None tree leaf net s p = kept s s refl (omega arith)
of_rose (Some q) tree leaf net s p = row_rose s p q tree leaf net q.kind

pub numbers_rise : (tree : Tree) (leaf : Leaf) (net : Net) (s : State) (p r : ℕ) → ((fire tree leaf net s p).own r).number ≤ (s.own r).number + 1
unfolding fire
numbers_rise tree leaf net s p r = (of_rose (slice_get net.procs p) tree leaf net s p).numbers r

pub sent_rises : (tree : Tree) (leaf : Leaf) (net : Net) (s : State) (p : ℕ) → (fire tree leaf net s p).sent ≤ s.sent + 1
unfolding fire
sent_rises tree leaf net s p = (of_rose (slice_get net.procs p) tree leaf net s p).sent
