-- Outcomes and firings that the tokens of a net still stand for, for any net: the linker hands in one
-- such record of its root.
use Rattle.std.specs.Prelude.{◌≡◌, ℕ, ℤ, ◌+◌, ◌*◌, ◌≤◌, Bool, true, false, List, [], ◌++◌, length, map}
use Rattle.p3l_base.specs.declared.outcome.Outcome.{Outcome}
use Rattle.p3l_skel.specs.declared.tree.Tree.{Tree}
use Rattle.std.specs.List.{AllByRecursion}
use Rattle.p3l_skel.specs.Tree.{node_at}
use Rattle.p3l_skel.specs.Item.{item}
use Rattle.p3l_firing.specs.declared.net.Net.{Net}
use Rattle.p3l_firing.specs.Token.{has_trap}
use Rattle.p3l_firing.specs.State.{State, first_state}
use Rattle.p3l_firing.specs.Fire.{IsStuck}
use Rattle.p3l_firing.specs.Ways.{MayFire}
use Rattle.p3l_firing.specs.Outcomes.{up_to_first_trap}

-- of each state of a net: whether it is orderly, the outcomes that its tokens will come to, in order, and the firings that they
-- can still need
pub record Invariants : Type 0 where
  pub orderly : State → Bool
  pub to_come : State → List Outcome
  pub owed : State → ℕ

-- the outcomes emitted, those to come, and those of the items not yet sent
unfoldable pub whole : Invariants → (List ℤ → Outcome) → State → List Outcome
whole invariants root s = s.emitted ++ (invariants.to_come s ++ map root s.unsent)

-- before anything has fired
pub record Begins (invariants : Invariants) (s : State) : Type 0 where
  pub orderly : invariants.orderly s ≡ true
  pub to_come : invariants.to_come s ≡ []
  pub owed : invariants.owed s ≡ 0

-- a firing from s to t keeps the whole list, and takes from what is owed
pub record Keeps (invariants : Invariants) (root : List ℤ → Outcome) (firings : ℕ) (s t : State) : Type 0 where
  pub orderly : invariants.orderly t ≡ true
  pub same : whole invariants root t ≡ whole invariants root s
  pub emitted : up_to_first_trap s.emitted ≡ s.emitted → up_to_first_trap t.emitted ≡ t.emitted
  pub items : t.sent + length t.unsent ≡ s.sent + length s.unsent
  pub work : (invariants.owed t + 1) + firings * s.sent ≤ invariants.owed s + firings * t.sent

-- nothing is left
pub record IsDrained (invariants : Invariants) (s : State) : Type 0 where
  pub unsent : s.unsent ≡ []
  pub to_come : invariants.to_come s ≡ []

-- each item has the root's in words
abbrev pub HaveInWords : Tree → List (List ℤ) → Type 0
HaveInWords tree items = AllByRecursion (λ words. length words ≡ (node_at tree 0).ins) items

-- the three laws of a net, of which every law over all picks follows
pub record HasInvariants (tree : Tree) (leaf : ℕ → List ℤ → Outcome) (net : Net) (firings : ℕ) (invariants : Invariants) : Type 0 where
  pub begins : (items : List (List ℤ)) → HaveInWords tree items → Begins invariants (first_state net items)
  pub step : (s t : State) (p : ℕ) → MayFire tree leaf net s p t → invariants.orderly s ≡ true → Keeps invariants (item tree leaf 0) firings s t
  pub drained : (s : State) → invariants.orderly s ≡ true → has_trap s.emitted ≡ false → IsStuck tree net s → IsDrained invariants s
