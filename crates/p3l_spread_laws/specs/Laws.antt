-- The laws of spread nets: those of runs by picks, however late messages come.
use Rattle.std.specs.Prelude.{◌≡◌, ℕ, ℤ, ◌*◌, ◌≤◌, true, List, length}
use Rattle.p3l_skel.specs.declared.tree.Tree.{Tree}
use Rattle.p3l_skel.specs.Item.{meaning}
use Rattle.p3l_skel.specs.Numbers.{firings}
use Rattle.p3l_skel.specs.Tree.{GivesOuts}
use Rattle.p3l_firing.specs.declared.net.Net.{Net}
use Rattle.p3l_firing.specs.NetInvariants.{Invariants, HaveInWords, HasInvariants}
use Rattle.p3l_firing.specs.Fire.{IsStuck}
use Rattle.p3l_firing.specs.Nodes.{Leaf}
use Rattle.p3l_firing.specs.Outcomes.{IsPrefixOf}
use Rattle.p3l_firing.specs.State.{State}
use Rattle.p3l_firing.specs.Token.{has_trap}
use Rattle.p3l_firing.specs.Typed.{IsTyped, IsFitting}
use Rattle.p3l_firing.specs.Ways.{MayFire, Sees}
use Rattle.p3l_template.specs.Units.{Units}
use Rattle.p3l_link.specs.Laws.{IsLinkable, net_of}
use Rattle.p3l_spread_laws.specs.Spread.{Spread, Fires, IsSound, IsBegun, begun, IsRun, IsQuiet, IsDelivered, Step, view}
use Rattle.p3l_spread_laws.specs.Wire.{Distributed, spread_of, IsExact, IsDistributedRun, IsIdle}
use Rattle.p3l_spread_laws.specs.Wire as wire

-- a typed net can begin
abbrev pub EveryTypedNetBegins : Type 0
EveryTypedNetBegins =
    (tree : Tree) (net : Net) (items : List (List ℤ)) → IsTyped tree net → IsBegun net items (begun net items)

-- each step keeps the views true
abbrev pub EveryStepStaysSound : Type 0
EveryStepStaysSound =
    (tree : Tree) (leaf : Leaf) (net : Net) (d e : Spread) → IsSound net d → Step tree leaf net d e → IsSound net e

-- a way that is open by a rank's view is a way of the whole net
abbrev pub EveryViewIsTrue : Type 0
EveryViewIsTrue =
    (tree : Tree) (leaf : Leaf) (net : Net) (d : Spread) (p : ℕ) (t : State) → IsSound net d →
    Sees tree leaf net (view d) d.state p t → MayFire tree leaf net d.state p t

-- the firing from d to state t can be taken
pub record IsTaken (tree : Tree) (leaf : Leaf) (net : Net) (d : Spread) (t : State) : Type 0 where
  pub to : Spread
  pub state : to.state ≡ t
  pub fires : Fires tree leaf net d to

-- in a typed net every way that is open by a rank's view can be taken: its tokens were seen, and there is credit for what it appends
abbrev pub EveryWayCanBeTaken : Type 0
EveryWayCanBeTaken =
    (tree : Tree) (leaf : Leaf) (net : Net) (typed : IsTyped tree net) (d : Spread) (p : ℕ) (t : State) → IsSound net d →
    Sees tree leaf net (view d) d.state p t → IsTaken tree leaf net d t

-- in a quiet net nothing can fire in the whole net
abbrev pub QuietMeansStuck : Type 0
QuietMeansStuck = (tree : Tree) (leaf : Leaf) (net : Net) (d : Spread) → IsQuiet tree leaf net d → IsStuck tree net d.state

-- the outcomes emitted are a prefix of the items' meaning; each item sent takes at most `most` firings, and no more items are sent than
-- there are. The prefix is the whole meaning once it has as many outcomes as there are items, once it ends with a trap, and once the
-- net is quiet
pub record Means (tree : Tree) (leaf : Leaf) (net : Net) (most : ℕ) (items : List (List ℤ)) (d : Spread) : Type 0 where
  pub begins : IsPrefixOf d.state.emitted (meaning tree leaf items)
  pub bounded : d.fired ≤ most * d.state.sent
  pub sent : d.state.sent ≤ length items
  pub counted : length items ≤ length d.state.emitted → d.state.emitted ≡ meaning tree leaf items
  pub trapped : has_trap d.state.emitted ≡ true → d.state.emitted ≡ meaning tree leaf items
  pub finished : IsQuiet tree leaf net d → d.state.emitted ≡ meaning tree leaf items

-- a net with no message in flight is quiet if no process has a way to fire by its rank's view
abbrev pub DeliveredMeansQuiet : Type 0
DeliveredMeansQuiet =
    (tree : Tree) (leaf : Leaf) (net : Net) (d : Spread) → IsDelivered net d →
    ((p : ℕ) (t : State) → Sees tree leaf net (view d) d.state p t → ⊥) → IsQuiet tree leaf net d

-- in a typed net every token of a spread run has the words and the tags of its channel, and no channel has more tokens than its
-- capacity, with those in flight
abbrev pub EverySpreadRunFits : Type 0
EverySpreadRunFits =
    (tree : Tree) (leaf : Leaf) (net : Net) (typed : IsTyped tree net) (items : List (List ℤ)) (at : ℕ → Spread) (n : ℕ) →
    GivesOuts tree leaf → HaveInWords tree items → IsRun tree leaf net items at n →
    IsFitting tree net typed.widths (at n).state

-- the same of linked nets, which have invariants
abbrev pub EveryLinkedSpreadRunMeansItsItems : Type 0
EveryLinkedSpreadRunMeansItsItems =
    (units : Units) (counts : List ℕ) (cap : ℕ) (items : List (List ℤ)) (at : ℕ → Spread) (n : ℕ) → IsLinkable units counts cap →
    HaveInWords units.tree items → IsRun units.tree units.leaf (net_of units counts cap) items at n →
    Means units.tree units.leaf (net_of units counts cap) (firings units.tree counts) items (at n)

abbrev pub EverySpreadRunMeansItsItems : Type 0
EverySpreadRunMeansItsItems =
    (tree : Tree) (leaf : Leaf) (net : Net) (most : ℕ) (invariants : Invariants) (items : List (List ℤ)) (at : ℕ → Spread) (n : ℕ) →
    HasInvariants tree leaf net most invariants → HaveInWords tree items → IsRun tree leaf net items at n →
    Means tree leaf net most items (at n)

-- a run with its messages is a spread run
abbrev pub EveryDistributedRunIsSpread : Type 0
EveryDistributedRunIsSpread =
    (tree : Tree) (leaf : Leaf) (net : Net) (items : List (List ℤ)) (at : ℕ → Distributed) (n : ℕ) →
    IsDistributedRun tree leaf net items at n → IsRun tree leaf net items (λ i. spread_of (at i)) n

-- the firing to state t can be taken with its messages
pub record IsWireTaken (tree : Tree) (leaf : Leaf) (net : Net) (w : Distributed) (t : State) : Type 0 where
  pub to : Distributed
  pub state : (spread_of to).state ≡ t
  pub fires : wire.Fires tree leaf net w to

-- in a typed net every open way can be taken with its messages
abbrev pub EveryWireCanTake : Type 0
EveryWireCanTake =
    (tree : Tree) (leaf : Leaf) (net : Net) (typed : IsTyped tree net) (w : Distributed) (p : ℕ) (t : State) → IsExact net w →
    Sees tree leaf net (view (spread_of w)) (spread_of w).state p t → IsWireTaken tree leaf net w t

-- a net in which no rank can fire and no message is in flight is quiet
abbrev pub IdleMeansQuiet : Type 0
IdleMeansQuiet =
    (tree : Tree) (leaf : Leaf) (net : Net) (items : List (List ℤ)) (at : ℕ → Distributed) (n : ℕ) →
    IsDistributedRun tree leaf net items at n → IsIdle tree leaf net (at n) → IsQuiet tree leaf net (spread_of (at n))

-- so a linked net with its messages means its items
abbrev pub EveryLinkedDistributedRunMeansItsItems : Type 0
EveryLinkedDistributedRunMeansItsItems =
    (units : Units) (counts : List ℕ) (cap : ℕ) (items : List (List ℤ)) (at : ℕ → Distributed) (n : ℕ) → IsLinkable units counts cap →
    HaveInWords units.tree items → IsDistributedRun units.tree units.leaf (net_of units counts cap) items at n →
    Means units.tree units.leaf (net_of units counts cap) (firings units.tree counts) items (spread_of (at n))
