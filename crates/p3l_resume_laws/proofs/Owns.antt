-- A firing changes what its own process keeps, and no other's; and a process that sends a token in pieces holds one at most.
use Rattle.std.proofs.Common.{◌≡◌, ◌≢◌, ℕ, ◌≤◌, Bool, true, false, cond, length, Option, None, Some, slice_get, refl, sym, ap, ◌∙◌, subst, arith, inl, inr}
use Rattle.std.proofs.lemmas.Bool.{cases_eq}
use Rattle.p3l_skel.specs.declared.tree.Tree.{Tree}
use Rattle.p3l_ready.proofs.AtLemmas.{at-same, at-other}
use Rattle.p3l_firing.specs.declared.net.Net.{Net}
use Rattle.p3l_firing.specs.declared.process.Proc.{Proc}
use Rattle.p3l_firing.specs.declared.process.ProcKind.{ProcKind}
use Rattle.p3l_firing.specs.declared.process.ProcKind.TheVariants as kinds
use Rattle.p3l_firing.specs.declared.token.Token.{Token}
use Rattle.p3l_firing.specs.Fire.{fire, fire_of, row_fire}
use Rattle.p3l_firing.specs.Lists.{has_first}
use Rattle.p3l_firing.specs.Nodes.{Leaf}
use Rattle.p3l_firing.specs.State.{LocalState, State, counted, fresh, pop, push, set_own}
use Rattle.p3l_firing.specs.kinds.Source as source
use Rattle.p3l_firing.specs.kinds.Sink as sink
use Rattle.p3l_firing.specs.kinds.Run as run
use Rattle.p3l_firing.specs.kinds.Emit as emit
use Rattle.p3l_firing.specs.kinds.Collect as collect
use Rattle.p3l_firing.specs.kinds.Scatter as scatter
use Rattle.p3l_firing.specs.kinds.Gather as gather
use Rattle.p3l_firing.specs.kinds.Split as split
use Rattle.p3l_firing.specs.kinds.FoldGather as fold_gather
use Rattle.p3l_firing.specs.kinds.Join as join
use Rattle.p3l_firing.specs.kinds.Head as head
use Rattle.p3l_firing.specs.kinds.Tail as tail

-- a process that sends a token in pieces holds one at most
abbrev pub HoldsOne : ProcKind → LocalState → Type 0
HoldsOne kinds.Scatter o = length o.held ≤ 1
HoldsOne kinds.Split o = length o.held ≤ 1
HoldsOne _ o = Unit {0}

-- from s to n process p alone keeps something else
pub record ChangesOne (s n : State) (p : ℕ) : Type 0 where
  pub others : (r : ℕ) → r ≢ p → n.own r ≡ s.own r

same : (s n : State) (p : ℕ) → n.own ≡ s.own → ChangesOne s n p
same s n p e = record { others = λ r apart. ap (λ (own : ℕ → LocalState). own r) e }

written : (s n : State) (p : ℕ) (o : LocalState) → n.own ≡ s.own → ChangesOne s (set_own n p o) p
unfolding set_own
written s n p o e = record { others = λ r apart. at-other n.own p o r apart ∙ ap (λ (own : ℕ → LocalState). own r) e }

either : (b : Bool) (s n m : State) (p : ℕ) → ChangesOne s n p → ChangesOne s m p → ChangesOne s (cond b n m) p
either true s n m p h k = h
either false s n m p h k = k

module _ (s : State) (p : ℕ) (o : LocalState) (q : Proc) where
  sent_to : (chosen : Option ℕ) → ChangesOne s (emit.sent_to chosen s p o q) p
  unfolding emit.sent_to push pop
  sent_to None = same s s p refl
  sent_to (Some c) = written s _ p _ refl

  taken_from : (due : Option ℕ) → ChangesOne s (collect.taken_from due s p o q) p
  unfolding collect.taken_from push pop
  taken_from None = same s s p refl
  taken_from (Some c) = written s _ p _ refl

  turned : (turn : tail.Turn) (x : Token) → ChangesOne s (tail.take_turn turn s p o q x) p
  unfolding tail.take_turn push pop
  turned (tail.Turn.Held outcome) x = written s _ p _ refl
  turned tail.Turn.Again x = same s _ p refl

  sent_round : ChangesOne s (head.sent_round s q) p
  unfolding head.sent_round push pop
  sent_round = same s (head.sent_round s q) p refl

  let_in : ChangesOne s (head.let_in s p o q) p
  unfolding head.let_in push pop
  let_in = written s _ p (counted o) refl

  released : ChangesOne s (tail.release s p o q) p
  unfolding tail.release push
  released = written s _ p _ refl

  module _ (tree : Tree) (leaf : Leaf) (net : Net) where
    row_changes : (k : ProcKind) → ChangesOne s (row_fire k tree leaf net s p o q) p
    unfolding row_fire source.fire sink.fire run.fire emit.fire collect.fire scatter.fire scatter.element_sent gather.fire gather.whole_sent split.fire split.segment_sent fold_gather.fire fold_gather.fold_sent join.fire head.fire tail.fire push pop
    row_changes kinds.Source = same s _ p refl
    row_changes kinds.Sink = same s _ p refl
    row_changes kinds.Run = same s _ p refl
    row_changes kinds.Emit = sent_to _
    row_changes kinds.Collect = taken_from _
    row_changes kinds.Scatter = either _ s _ _ p (written s _ p _ refl) (written s _ p _ refl)
    row_changes kinds.Gather = either _ s _ _ p (written s _ p _ refl) (written s _ p _ refl)
    row_changes kinds.Split = either _ s _ _ p (written s _ p _ refl) (written s _ p _ refl)
    row_changes kinds.FoldGather = either _ s _ _ p (written s _ p _ refl) (written s _ p _ refl)
    row_changes kinds.Join = same s _ p refl
    row_changes kinds.Head = either _ s _ _ p sent_round let_in
    row_changes kinds.Tail = either _ s _ _ p released (turned _ _)

    -- its new own state holds at most one token
    one_kept : (n : State) (x : LocalState) → length x.held ≤ 1 → length ((set_own n p x).own p).held ≤ 1
    unfolding set_own
    one_kept n x few = subst (λ (y : LocalState). length y.held ≤ 1) (sym (at-same n.own p x)) few

    one_of : (b : Bool) (n m : State) → length (n.own p).held ≤ 1 → length (m.own p).held ≤ 1 → length ((cond b n m).own p).held ≤ 1
    one_of true n m h k = h
    one_of false n m h k = k

    passed : (b : Bool) → length o.held ≤ 1 → length (cond b (counted o) fresh).held ≤ 1
    passed true few = few
    passed false few = omega arith

    row_holds : (k : ProcKind) → HoldsOne k o → HoldsOne k ((row_fire k tree leaf net s p o q).own p)
    unfolding row_fire scatter.fire scatter.element_sent scatter.after_element split.fire split.segment_sent split.after_segment
    row_holds kinds.Source few = tt
    row_holds kinds.Sink few = tt
    row_holds kinds.Run few = tt
    row_holds kinds.Emit few = tt
    row_holds kinds.Collect few = tt
    row_holds kinds.Scatter few = one_of (has_first o.held) _ _ (one_kept _ _ (passed _ few)) (one_kept _ _ (omega arith))
    row_holds kinds.Gather few = tt
    row_holds kinds.Split few = one_of (has_first o.held) _ _ (one_kept _ _ (passed _ few)) (one_kept _ _ (omega arith))
    row_holds kinds.FoldGather few = tt
    row_holds kinds.Join few = tt
    row_holds kinds.Head few = tt
    row_holds kinds.Tail few = tt

module _ (tree : Tree) (leaf : Leaf) (net : Net) (s : State) (p : ℕ) where
  changes_of : (stands : Option Proc) → ChangesOne s (fire_of stands tree leaf net s p (s.own p)) p
  unfolding fire_of
  changes_of None = same s s p refl
  changes_of (Some q) = row_changes s p (s.own p) q tree leaf net q.kind

  -- the own states of the others stay
  pub other_own : (r : ℕ) → r ≢ p → (fire tree leaf net s p).own r ≡ s.own r
  unfolding fire
  other_own r apart = (changes_of (slice_get net.procs p)).others r apart

  holds_of : (stands : Option Proc) (q : Proc) → stands ≡ Some q → HoldsOne q.kind (s.own p) →
      HoldsOne q.kind ((fire_of stands tree leaf net s p (s.own p)).own p)
  unfolding fire_of
  holds_of None q e few = cc
  holds_of (Some x) q e few =
      let is : x ≡ q = cc in
      subst (λ (z : Proc). HoldsOne z.kind ((row_fire x.kind tree leaf net s p (s.own p) x).own p)) is
      (row_holds s p (s.own p) x tree leaf net x.kind (subst (λ (z : Proc). HoldsOne z.kind (s.own p)) (sym is) few))

  -- a firing keeps that processes of pieces hold one token at most
  pub fired_holds : (r : ℕ) (q : Proc) → slice_get net.procs r ≡ Some q → HoldsOne q.kind (s.own r) →
      HoldsOne q.kind ((fire tree leaf net s p).own r)
  unfolding fire
  fired_holds r q stands few =
      elim (cases_eq r p) [
        | inl e ↦
            subst (λ i. HoldsOne q.kind ((fire tree leaf net s p).own i)) (sym e)
            (holds_of (slice_get net.procs p) q (subst (λ i. slice_get net.procs i ≡ Some q) e stands) (subst (λ i. HoldsOne q.kind (s.own i)) e few))
        | inr apart ↦ subst (HoldsOne q.kind) (sym (other_own r apart)) few
      ]

pub fresh_holds : (k : ProcKind) → HoldsOne k fresh
fresh_holds kinds.Source = tt
fresh_holds kinds.Sink = tt
fresh_holds kinds.Run = tt
fresh_holds kinds.Emit = tt
fresh_holds kinds.Collect = tt
fresh_holds kinds.Scatter = omega arith
fresh_holds kinds.Gather = tt
fresh_holds kinds.Split = omega arith
fresh_holds kinds.FoldGather = tt
fresh_holds kinds.Join = tt
fresh_holds kinds.Head = tt
fresh_holds kinds.Tail = tt
