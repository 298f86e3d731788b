-- Runs that go on from what was saved of a linked net: where they begin, what is to come of what was in the net, and how often it can
-- fire for that.
use Rattle.std.specs.Prelude.{◌≡◌, ℕ, ℤ, ◌+◌, ◌*◌, ◌^◌, ◌<◌, ◌≤◌, true, List, [], ◌++◌, length, map}
use Rattle.std.specs.Option.{option_to_list}
use Rattle.p3l_base.specs.Limits.{most_processes, most_tokens}
use Rattle.p3l_skel.specs.declared.tree.Tree.{Tree}
use Rattle.p3l_skel.specs.Counts.{HasLawfulCounts}
use Rattle.p3l_skel.specs.Item.{item}
use Rattle.p3l_skel.specs.Lawful.{IsLawfulTree}
use Rattle.p3l_skel.specs.Numbers.{firings, procs}
use Rattle.p3l_firing.specs.NetInvariants.{HaveInWords}
use Rattle.p3l_firing.specs.State.{State, with_rest}
use Rattle.p3l_firing.specs.Typed.{IsTyped}
use Rattle.p3l_firing.specs.declared.shot.Shot.{Shot}
use Rattle.p3l_net.specs.Shot.{CanRestore}
use Rattle.p3l_template.specs.Units.{Units}
use Rattle.p3l_link.specs.Laws.{IsLinkable, IsOrderly, net_of}
use Rattle.p3l_link.specs.Whole.{root_invariants, tokens_in}
use Rattle.p3l_resume_laws.specs.Linked.{ahead_of}
use Rattle.p3l_resume_laws.specs.Saved.{FitsLinked, saved_state}

-- the initial state of a run that continues from a shot, if these items come after the one in the inbox: its emitted items are counted
-- from there
abbrev pub begun_from : Units → List ℕ → (cap : ℕ) → Shot → List (List ℤ) → State
begun_from units counts cap shot items = with_rest (saved_state units counts cap (record shot { emitted = 0 }) []) items

-- the number of tokens saved in a linked net
abbrev pub tokens_saved : Units → List ℕ → (cap : ℕ) → Shot → ℕ
tokens_saved units counts cap shot = tokens_in (net_of units counts cap) (saved_state units counts cap shot [])

-- a run can go on from a shot, whatever items come then: a machine can be restored from it, the net is orderly, these outcomes are to
-- come of what is in the net and in the inbox, and it fires for each token in the net at most as often as for an item
pub record GoesOn (units : Units) (counts : List ℕ) (cap : ℕ) (shot : Shot) : Type 0 where
  pub restores : CanRestore units.tree (net_of units counts cap) shot
  pub orderly : (items : List (List ℤ)) → HaveInWords units.tree items
      → (root_invariants units counts).orderly (begun_from units counts cap shot items) ≡ true
  pub ahead : (items : List (List ℤ)) → HaveInWords units.tree items
      → (root_invariants units counts).to_come (begun_from units counts cap shot items)
      ++ map (item units.tree units.leaf 0) (option_to_list shot.inbox)
      ≡ ahead_of units counts (saved_state units counts cap shot [])
  pub owed : (items : List (List ℤ)) → HaveInWords units.tree items
      → (root_invariants units counts).owed (begun_from units counts cap shot items)
      ≤ firings units.tree counts * tokens_saved units counts cap shot

-- a run can continue from a shot that fits a linked net, if the root is orderly
abbrev pub EveryOrderlyShotGoesOn : Type 0
EveryOrderlyShotGoesOn =
    (units : Units) (counts : List ℕ) (cap : ℕ) (shot : Shot) → IsTyped units.tree (net_of units counts cap)
    → IsLinkable units counts cap → FitsLinked units.tree counts cap shot → IsOrderly units counts (saved_state units counts cap shot [])
    → GoesOn units counts cap shot

-- a net fires at most 2^27 + 2 times for an item
abbrev pub EveryItemHasFewFirings : Type 0
EveryItemHasFewFirings =
    (tree : Tree) (counts : List ℕ) → IsLawfulTree tree → HasLawfulCounts tree counts → firings tree counts ≤ 134217730

-- a shot that fits a net of at most 4,096 processes, whose channels have room for at most 1,024 tokens, has few tokens: two channels
-- a process, and 65,536 tokens that it holds
abbrev pub EveryFittingShotHasFewTokens : Type 0
EveryFittingShotHasFewTokens =
    (units : Units) (counts : List ℕ) (cap : ℕ) (shot : Shot) → IsTyped units.tree (net_of units counts cap)
    → IsLinkable units counts cap → procs units.tree counts 0 ≤ most_processes → cap ≤ most_tokens → FitsLinked units.tree counts cap shot
    → tokens_saved units counts cap shot ≤ 276955136

-- so the firings of a run that continues from there can be counted, if no more items come than an input of 2^36 bytes has
abbrev pub EveryResumedRunCanBeCounted : Type 0
EveryResumedRunCanBeCounted =
    (units : Units) (counts : List ℕ) (cap : ℕ) (shot : Shot) (count : ℕ) → IsTyped units.tree (net_of units counts cap)
    → IsLinkable units counts cap → procs units.tree counts 0 ≤ most_processes → cap ≤ most_tokens → FitsLinked units.tree counts cap shot
    → count ≤ 34359738369
    → firings units.tree counts * tokens_saved units counts cap shot
    + firings units.tree counts * (length (option_to_list shot.inbox) + count)
    < 2 ^ 63
