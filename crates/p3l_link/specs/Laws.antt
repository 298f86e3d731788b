-- The laws of linked nets: of the root's part, of every run, and of every orderly state.
use Rattle.std.specs.Prelude.{◌≡◌, ℕ, ℤ, ◌+◌, ◌*◌, ◌<◌, ◌≤◌, true, false, List, [], length, map}
use Rattle.p3l_base.specs.declared.outcome.Outcome.{Outcome}
use Rattle.p3l_skel.specs.Counts.{HasLawfulCounts}
use Rattle.p3l_skel.specs.Item.{item, meaning}
use Rattle.p3l_skel.specs.Lawful.{IsLawfulTree}
use Rattle.p3l_skel.specs.Numbers.{firings, firings_by, joined_firings}
use Rattle.p3l_skel.specs.Tree.{node_at, GivesOuts, HasLength}
use Rattle.p3l_firing.specs.declared.net.Net.{Net}
use Rattle.p3l_firing.specs.NetInvariants.{HaveInWords, HasInvariants, whole}
use Rattle.p3l_firing.specs.Fire.{IsStuck, can_fire, fire}
use Rattle.p3l_firing.specs.Outcomes.{IsPrefixOf}
use Rattle.p3l_firing.specs.RoundRobin.{round_robin}
use Rattle.p3l_firing.specs.Run.{Course, run}
use Rattle.p3l_firing.specs.State.{State, first_state}
use Rattle.p3l_firing.specs.Token.{has_trap}
use Rattle.p3l_firing.specs.Typed.{IsFitting, IsTyped}
use Rattle.p3l_firing.specs.Ways.{MayFire}
use Rattle.p3l_template.specs.Part.{Part, IsLawfulPart}
use Rattle.p3l_template.specs.Placed.{AreLaid, AreStanding, IsGoodBase}
use Rattle.p3l_template.specs.Shape.{Base, Role}
use Rattle.p3l_template.specs.Units.{Units}
use Rattle.p3l_link.specs.Counts.{IsCounted}
use Rattle.p3l_link.specs.Means.{Means}
use Rattle.p3l_link.specs.Net.{Piece, piece_of, linked_net}
use Rattle.p3l_link.specs.Part.{role_of, part_of, root_part}
use Rattle.p3l_link.specs.Whole.{owed_round, root_invariants, tokens_in}

-- these processes and channels are in the net from the base on, which is between two channels that
-- were given out before
pub record StandsAt (net : Net) (piece : Piece) (base : Base) : Type 0 where
  pub good : IsGoodBase net base
  pub procs : AreStanding net base.proc piece.procs
  pub chans : AreLaid net base.chan piece.chans

-- part P is a lawful part of the net, does what is said of it, and lies from the base to the end of the piece
pub record IsPartAt (net : Net) (units : Units) (role : Role) (base : Base) (piece : Piece) (P : Part) : Type 0 where
  pub lawful : IsLawfulPart net units P
  pub meaning : P.meaning ≡ role.meaning
  pub firings : P.firings ≡ role.firings
  pub input : P.input ≡ base.input
  pub output : P.output ≡ base.output
  pub proc_from : P.proc_from ≡ base.proc
  pub chan_from : P.chan_from ≡ base.chan
  pub proc_to : P.proc_to ≡ base.proc + length piece.procs
  pub chan_to : P.chan_to ≡ base.chan + length piece.chans

-- the role of node k, placed with all that is below it down to depth d, does the node's work: it has the meaning that the language
-- gives, with its out words, and its number of firings for a token is the tree's
pub record DoesItsNode (units : Units) (count : ℕ → ℕ) (d k : ℕ) : Type 0 where
  pub means : Means units k (role_of units count d k).meaning
  pub words : (o : Outcome) → HasLength (node_at units.tree k).ins o →
      HasLength (node_at units.tree k).outs ((role_of units count d k).meaning o)
  pub firings : (role_of units count d k).firings ≡ firings_by joined_firings units.tree count d k

-- a net can be linked: the tree and the counts are lawful, channels have room, and what the `seq` modules give has the out words of
-- their nodes
pub record IsLinkable (units : Units) (counts : List ℕ) (cap : ℕ) : Type 0 where
  pub lawful : IsLawfulTree units.tree
  pub fit : HasLawfulCounts units.tree counts
  pub room : 0 < cap
  pub gives : GivesOuts units.tree units.leaf

abbrev pub net_of : Units → List ℕ → (cap : ℕ) → Net
net_of units counts cap = linked_net units.tree counts cap

-- the run of a linked net on items under picks
abbrev pub linked_run : Units → List ℕ → (cap : ℕ) → List (List ℤ) → List ℕ → Course
linked_run units counts cap items picks = run units.tree units.leaf (net_of units counts cap) items picks

-- the root is a lawful part of its net, does what the tree means, and fires as often, but for the source and the sink
pub record IsRoot (units : Units) (counts : List ℕ) (cap : ℕ) : Type 0 where
  pub lawful : IsLawfulPart (net_of units counts cap) units (root_part units counts)
  pub means : Means units 0 (root_part units counts).meaning
  pub words : (o : Outcome) → HasLength (node_at units.tree 0).ins o →
      HasLength (node_at units.tree 0).outs ((root_part units counts).meaning o)
  pub firings : (root_part units counts).firings + 2 ≡ firings units.tree counts

-- the invariant of every firing: the root is orderly, and each item not yet sent has its in words
pub record IsOrderly (units : Units) (counts : List ℕ) (s : State) : Type 0 where
  pub root : (root_part units counts).orderly s ≡ true
  pub items : HaveInWords units.tree s.unsent

-- nothing is left to be sent, before the root, in it or after it
pub record IsFinished (units : Units) (counts : List ℕ) (s : State) : Type 0 where
  pub unsent : s.unsent ≡ []
  pub before : s.tokens 0 ≡ []
  pub pending : (root_part units counts).pending s ≡ []
  pub after : s.tokens 1 ≡ []

-- before anything has fired the state is orderly, and the whole list is what the root makes of the items
pub record IsBegun (units : Units) (counts : List ℕ) (cap : ℕ) (items : List (List ℤ)) : Type 0 where
  pub orderly : IsOrderly units counts (first_state (net_of units counts cap) items)
  pub whole : whole (root_invariants units counts) (item units.tree units.leaf 0) (first_state (net_of units counts cap) items)
      ≡ map (item units.tree units.leaf 0) items

-- a firing from s to t keeps the order and the whole list: the outcomes emitted, those of the tokens after the root, in it and
-- before it, and those of the items not yet sent; and it takes from what is owed
pub record IsStep (units : Units) (counts : List ℕ) (s t : State) : Type 0 where
  pub orderly : IsOrderly units counts t
  pub whole : whole (root_invariants units counts) (item units.tree units.leaf 0) t
      ≡ whole (root_invariants units counts) (item units.tree units.leaf 0) s
  pub items : t.sent + length t.unsent ≡ s.sent + length s.unsent
  pub work : (owed_round (root_part units counts) t + 1) + firings units.tree counts * s.sent
      ≤ owed_round (root_part units counts) s + firings units.tree counts * t.sent

-- of any net in which a node is placed with all that is below it
abbrev pub EveryPlacedNodeIsAPart : Type 0
EveryPlacedNodeIsAPart =
    (net : Net) (units : Units) (count : ℕ → ℕ) (cap d k : ℕ) (base : Base) → IsLawfulTree units.tree → 0 < cap →
    IsCounted units.tree count d k → StandsAt net (piece_of units.tree count cap d k base) base →
    IsPartAt net units (role_of units count d k) base (piece_of units.tree count cap d k base) (part_of units count d k base)

abbrev pub EveryNodeDoesWhatItMeans : Type 0
EveryNodeDoesWhatItMeans =
    (units : Units) (count : ℕ → ℕ) (d k : ℕ) → IsLawfulTree units.tree → GivesOuts units.tree units.leaf →
    IsCounted units.tree count d k → DoesItsNode units count d k

abbrev pub EveryRootIsAPart : Type 0
EveryRootIsAPart = (units : Units) (counts : List ℕ) (cap : ℕ) → IsLinkable units counts cap → IsRoot units counts cap

abbrev pub EveryNetHasInvariants : Type 0
EveryNetHasInvariants =
    (units : Units) (counts : List ℕ) (cap : ℕ) → IsLinkable units counts cap →
    HasInvariants units.tree units.leaf (net_of units counts cap) (firings units.tree counts) (root_invariants units counts)

abbrev pub EveryRunBeginsOrderly : Type 0
EveryRunBeginsOrderly =
    (units : Units) (counts : List ℕ) (cap : ℕ) (items : List (List ℤ)) → IsLinkable units counts cap →
    HaveInWords units.tree items → IsBegun units counts cap items

abbrev pub EveryFiringKeepsTheList : Type 0
EveryFiringKeepsTheList =
    (units : Units) (counts : List ℕ) (cap : ℕ) (s : State) (p : ℕ) → IsLinkable units counts cap → IsOrderly units counts s →
    can_fire units.tree (net_of units counts cap) s p ≡ true →
    IsStep units counts s (fire units.tree units.leaf (net_of units counts cap) s p)

-- and so does a firing in any other way that is open to a process
abbrev pub EveryWayKeepsTheList : Type 0
EveryWayKeepsTheList =
    (units : Units) (counts : List ℕ) (cap : ℕ) (s t : State) (p : ℕ) → IsLinkable units counts cap → IsOrderly units counts s →
    MayFire units.tree units.leaf (net_of units counts cap) s p t → IsStep units counts s t

-- besides, in a typed net every token has the words and the tags of its place, and no channel holds more than its room: at first, and
-- after every firing
abbrev pub EveryRunBeginsFitting : Type 0
EveryRunBeginsFitting =
    (units : Units) (counts : List ℕ) (cap : ℕ) (typed : IsTyped units.tree (net_of units counts cap)) (items : List (List ℤ)) →
    HaveInWords units.tree items →
    IsFitting units.tree (net_of units counts cap) typed.widths (first_state (net_of units counts cap) items)

abbrev pub EveryFiringKeepsFitting : Type 0
EveryFiringKeepsFitting =
    (units : Units) (counts : List ℕ) (cap : ℕ) (typed : IsTyped units.tree (net_of units counts cap)) (s : State) (p : ℕ) →
    GivesOuts units.tree units.leaf → IsFitting units.tree (net_of units counts cap) typed.widths s →
    can_fire units.tree (net_of units counts cap) s p ≡ true →
    IsFitting units.tree (net_of units counts cap) typed.widths (fire units.tree units.leaf (net_of units counts cap) s p)

abbrev pub EveryRunBeginsTheMeaning : Type 0
EveryRunBeginsTheMeaning =
    (units : Units) (counts : List ℕ) (cap : ℕ) (items : List (List ℤ)) (picks : List ℕ) → IsLinkable units counts cap →
    HaveInWords units.tree items →
    IsPrefixOf (linked_run units counts cap items picks).state.emitted (meaning units.tree units.leaf items)

-- of any orderly state
abbrev pub StuckMeansEmpty : Type 0
StuckMeansEmpty =
    (units : Units) (counts : List ℕ) (cap : ℕ) (s : State) → IsLinkable units counts cap → IsOrderly units counts s →
    IsStuck units.tree (net_of units counts cap) s → has_trap s.emitted ≡ false → IsFinished units counts s

-- of any run
abbrev pub StuckMeansFinished : Type 0
StuckMeansFinished =
    (units : Units) (counts : List ℕ) (cap : ℕ) (items : List (List ℤ)) (picks : List ℕ) → IsLinkable units counts cap →
    HaveInWords units.tree items →
    IsStuck units.tree (net_of units counts cap) (linked_run units counts cap items picks).state →
    (linked_run units counts cap items picks).state.emitted ≡ meaning units.tree units.leaf items

-- the round robin, from process 0 on, comes to an end
abbrev pub RoundRobinEnds : Type 0
RoundRobinEnds =
    (units : Units) (counts : List ℕ) (cap : ℕ) (items : List (List ℤ)) → IsLinkable units counts cap →
    HaveInWords units.tree items →
    IsStuck units.tree (net_of units counts cap)
    (linked_run units counts cap items (round_robin units.tree units.leaf (net_of units counts cap)
    (firings units.tree counts * length items) (first_state (net_of units counts cap) items) 0)).state

abbrev pub FiringsAreBounded : Type 0
FiringsAreBounded =
    (units : Units) (counts : List ℕ) (cap : ℕ) (items : List (List ℤ)) (picks : List ℕ) → IsLinkable units counts cap →
    HaveInWords units.tree items →
    (linked_run units counts cap items picks).fired
    + owed_round (root_part units counts) (linked_run units counts cap items picks).state
    ≤ firings units.tree counts * (linked_run units counts cap items picks).state.sent

abbrev pub OwedIsBoundedByTokens : Type 0
OwedIsBoundedByTokens =
    (units : Units) (counts : List ℕ) (cap : ℕ) (s : State) → IsLinkable units counts cap → IsOrderly units counts s →
    owed_round (root_part units counts) s ≤ firings units.tree counts * tokens_in (net_of units counts cap) s
