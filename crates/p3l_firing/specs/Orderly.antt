-- Orderly states of a net with invariants, from which runs continue.
use Rattle.std.specs.Prelude.{◌≡◌, ◌+◌, true, List, ◌++◌, length, map}
use Rattle.p3l_base.specs.declared.outcome.Outcome.{Outcome}
use Rattle.p3l_skel.specs.declared.tree.Tree.{Tree}
use Rattle.p3l_skel.specs.Item.{item}
use Rattle.p3l_firing.specs.declared.net.Net.{Net}
use Rattle.p3l_firing.specs.NetInvariants.{Invariants, whole}
use Rattle.p3l_firing.specs.Fire.{IsStuck}
use Rattle.p3l_firing.specs.Nodes.{Leaf}
use Rattle.p3l_firing.specs.Outcomes.{up_to_first_trap, IsPrefixOf}
use Rattle.p3l_firing.specs.State.{State}

-- a run may continue from the state: it is orderly, and a trap, if one was emitted, was the last outcome
pub record CanGoOn (invariants : Invariants) (s : State) : Type 0 where
  pub orderly : invariants.orderly s ≡ true
  pub emitted : up_to_first_trap s.emitted ≡ s.emitted

-- as many outcomes were emitted or are to come as items were sent
abbrev pub IsBalanced : Invariants → State → Type 0
IsBalanced invariants s = s.sent ≡ length s.emitted + length (invariants.to_come s)

-- the outcomes emitted, those to come, and those of the items not yet sent, up to the first trap
abbrev pub outcomes_from : Tree → Leaf → Invariants → State → List Outcome
outcomes_from tree leaf invariants s = up_to_first_trap (whole invariants (item tree leaf 0) s)

-- the outcomes to come, and those of the items not yet sent, up to the first trap
abbrev pub left_from : Tree → Leaf → Invariants → State → List Outcome
left_from tree leaf invariants s = up_to_first_trap (invariants.to_come s ++ map (item tree leaf 0) s.unsent)

-- a run led from s to t and emitted these outcomes: they begin what is left, and are all of it where nothing can fire
pub record Emits (tree : Tree) (net : Net) (left : List Outcome) (s t : State) : Type 0 where
  pub outcomes : List Outcome
  pub emitted : t.emitted ≡ s.emitted ++ outcomes
  pub begins : IsPrefixOf outcomes left
  pub all : IsStuck tree net t → outcomes ≡ left
