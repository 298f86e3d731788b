-- A firing keeps the outcomes that were emitted, and adds no item to those not yet sent.
use Rattle.std.proofs.Common.{◌≡◌, ℕ, ◌+◌, Bool, true, false, List, [], ◌∷◌, ◌++◌, Option, Some, None, cond, refl, sym, ap, ◌∙◌, append-nil, append_assoc}
use Rattle.std.specs.Prelude.{slice_get}
use Rattle.p3l_base.specs.declared.outcome.Outcome.{Outcome}
use Rattle.p3l_skel.specs.declared.tree.Tree.{Tree}
use Rattle.p3l_firing.specs.declared.net.Net.{Net}
use Rattle.p3l_firing.specs.declared.process.Proc.{Proc}
use Rattle.p3l_firing.specs.declared.process.ProcKind.{ProcKind}
use Rattle.p3l_firing.specs.declared.process.ProcKind.TheVariants as kinds
use Rattle.p3l_firing.specs.declared.token.Token.{Token}
use Rattle.p3l_firing.specs.Fire.{can_fire, fire, fire_of}
use Rattle.p3l_firing.specs.Lists.{has_first, rest_of}
use Rattle.p3l_firing.specs.Nodes.{Leaf}
use Rattle.p3l_firing.specs.Outcomes.{IsPrefixOf}
use Rattle.p3l_firing.specs.Run.{Course, after_picks, picked}
use Rattle.p3l_firing.specs.Process.{in_of}
use Rattle.p3l_firing.specs.State.{LocalState, State, front, gathering, holding, pop, push, set_own}
use Rattle.p3l_firing.specs.kinds.{row_fire}
use Rattle.p3l_firing.specs.kinds.Source as source
use Rattle.p3l_firing.specs.kinds.Sink as sink
use Rattle.p3l_firing.specs.kinds.Run as run
use Rattle.p3l_firing.specs.kinds.Emit as emit
use Rattle.p3l_firing.specs.kinds.Collect as collect
use Rattle.p3l_firing.specs.kinds.Scatter as scatter
use Rattle.p3l_firing.specs.kinds.Gather as gather
use Rattle.p3l_firing.specs.kinds.Split as split
use Rattle.p3l_firing.specs.kinds.FoldGather as fold_gather
use Rattle.p3l_firing.specs.kinds.Join as join
use Rattle.p3l_firing.specs.kinds.Head as head
use Rattle.p3l_firing.specs.kinds.Tail as tail
use Rattle.p3l_firing.specs.kinds.Tail.{Turn, Held, Again}

pub record Leaves (s t : State) : Type 0 where
  pub emitted : IsPrefixOf s.emitted t.emitted
  pub unsent : s.unsent ≡ [] → t.unsent ≡ []

-- both stay as they were
same : (s t : State) → t.emitted ≡ s.emitted → t.unsent ≡ s.unsent → Leaves s t
same s t emitted unsent = record { emitted = ([], append-nil s.emitted ∙ sym emitted); unsent = λ none. unsent ∙ none }

either : (b : Bool) (s t u : State) → Leaves s t → Leaves s u → Leaves s (cond b t u)
either true s t u first second = first
either false s t u first second = second

sent_leaves : (o : Option ℕ) (s : State) (p : ℕ) (own : LocalState) (q : Proc) → Leaves s (emit.sent_to o s p own q)
unfolding emit.sent_to set_own push pop
sent_leaves None s p own q = same s _ refl refl
sent_leaves (Some c) s p own q = same s _ refl refl

taken_leaves : (o : Option ℕ) (s : State) (p : ℕ) (own : LocalState) (q : Proc) → Leaves s (collect.taken_from o s p own q)
unfolding collect.taken_from set_own push pop
taken_leaves None s p own q = same s _ refl refl
taken_leaves (Some c) s p own q = same s _ refl refl

turn_leaves : (turn : Turn) (s : State) (p : ℕ) (own : LocalState) (q : Proc) (x : Token) → Leaves s (tail.take_turn turn s p own q x)
unfolding tail.take_turn set_own push pop
turn_leaves (Held outcome) s p own q x = same s _ refl refl
turn_leaves Again s p own q x = same s _ refl refl

module _ (tree : Tree) (leaf : Leaf) (net : Net) where
  row_leaves : (k : ProcKind) (s : State) (p : ℕ) (own : LocalState) (q : Proc) → Leaves s (row_fire k tree leaf net s p own q)
  unfolding row_fire source.fire sink.fire run.fire emit.fire collect.fire scatter.fire scatter.element_sent gather.fire gather.whole_sent split.fire split.segment_sent fold_gather.fire fold_gather.fold_sent join.fire head.fire head.sent_round head.let_in tail.fire tail.release set_own push pop
  row_leaves kinds.Source s p own q = record { emitted = ([], append-nil s.emitted); unsent = λ none. ap rest_of none }
  row_leaves kinds.Sink s p own q = record { emitted = (_, refl); unsent = λ none. none }
  row_leaves kinds.Run s p own q = same s _ refl refl
  row_leaves kinds.Emit s p own q = sent_leaves _ s p own q
  row_leaves kinds.Collect s p own q = taken_leaves _ s p own q
  row_leaves kinds.Scatter s p own q = either (has_first own.held) s (scatter.element_sent tree s p own q) (set_own (pop s (in_of q 0)) p (holding (front s (in_of q 0)))) (same s _ refl refl) (same s _ refl refl)
  row_leaves kinds.Gather s p own q = either (gather.is_full tree own q) s (gather.whole_sent tree s p own q) (set_own (pop s (gather.line_of own q)) p (gathering own (front s (gather.line_of own q)))) (same s _ refl refl) (same s _ refl refl)
  row_leaves kinds.Split s p own q = either (has_first own.held) s (split.segment_sent tree s p own q) (set_own (pop s (in_of q 0)) p (holding (front s (in_of q 0)))) (same s _ refl refl) (same s _ refl refl)
  row_leaves kinds.FoldGather s p own q = either (fold_gather.is_full own q) s (fold_gather.fold_sent tree leaf s p own q) (set_own (pop s (fold_gather.line_of own q)) p (gathering own (front s (fold_gather.line_of own q)))) (same s _ refl refl) (same s _ refl refl)
  row_leaves kinds.Join s p own q = same s _ refl refl
  row_leaves kinds.Head s p own q = either (has_first (s.tokens (in_of q 1))) s (head.sent_round s q) (head.let_in s p own q) (same s _ refl refl) (same s _ refl refl)
  row_leaves kinds.Tail s p own q =
      let x : Token = front s (in_of q 0) in
      either (tail.can_release net s own q) s (tail.release s p own q) (tail.take_turn (tail.next_turn tree leaf s q) s p own q x) (same s _ refl refl) (turn_leaves (tail.next_turn tree leaf s q) s p own q x)

  fire_leaves : (o : Option Proc) (s : State) (p : ℕ) (own : LocalState) → Leaves s (fire_of o tree leaf net s p own)
  unfolding fire_of
  fire_leaves None s p own = same s s refl refl
  fire_leaves (Some q) s p own = row_leaves q.kind s p own q

  pub picked_leaves : (c : Course) (p : ℕ) → Leaves c.state (picked tree leaf net c p).state
  unfolding picked fire
  picked_leaves c p = by (can_fire tree net c.state p)
    where
      by : (b : Bool) → Leaves c.state (cond b (record c { state = fire tree leaf net c.state p; fired = c.fired + 1 }) (record c { idle = c.idle + 1 })).state
      by true = fire_leaves (slice_get net.procs p) c.state p (c.state.own p)
      by false = same c.state c.state refl refl

  -- a prefix of a prefix is a prefix of the whole
  begins_on : (xs ys zs : List Outcome) → IsPrefixOf xs ys → IsPrefixOf ys zs → IsPrefixOf xs zs
  begins_on xs ys zs one two = (one.0 ++ two.0, sym (append_assoc xs one.0 two.0) ∙ ap (λ l. l ++ two.0) one.1 ∙ two.1)

  -- outcomes that were emitted stay, whatever is picked after them
  pub after_leaves : (c : Course) (picks : List ℕ) → IsPrefixOf c.state.emitted (after_picks tree leaf net c picks).state.emitted
  unfolding after_picks
  after_leaves c [] = ([], append-nil c.state.emitted)
  after_leaves c (p ∷ picks) = begins_on _ _ _ (picked_leaves c p).emitted (after_leaves (picked tree leaf net c p) picks)
