-- Beginnings of runs: with nothing fired, or in a state that was saved of another run.
use Rattle.std.specs.Prelude.{◌≡◌, ℕ, ℤ, ◌+◌, ◌*◌, ◌≤◌, true, List, [], ◌++◌, length, map}
use Rattle.std.specs.Option.{option_to_list}
use Rattle.p3l_base.specs.declared.outcome.Outcome.{Outcome}
use Rattle.p3l_skel.specs.declared.tree.Tree.{Tree}
use Rattle.p3l_skel.specs.Item.{item}
use Rattle.p3l_firing.specs.declared.net.Net.{Net}
use Rattle.p3l_firing.specs.Nodes.{Leaf}
use Rattle.p3l_firing.specs.NetInvariants.{Invariants, HaveInWords}
use Rattle.p3l_firing.specs.Outcomes.{up_to_first_trap}
use Rattle.p3l_firing.specs.State.{State, first_state, with_rest}
use Rattle.p3l_firing.specs.declared.shot.Shot.{Shot}
use Rattle.p3l_net.specs.Machine.{Seen, started, state_of}
use Rattle.p3l_net.specs.Shot.{CanRestore, restored}

-- the saved state of a run; the outcomes that are to come of the tokens in it and of the item in its inbox; and how often the net can
-- fire for these tokens at most
pub record Resumption : Type 0 where
  pub shot : Shot
  pub ahead : List Outcome
  pub owed : ℕ

pub data Start : Type 0 where
  fresh : Start
  saved : Resumption → Start

-- a shot as the run that continues from it begins: it counts only the outcomes that it emits itself
abbrev pub uncounted : Shot → Shot
uncounted shot = record shot { emitted = 0 }

-- the machine with which a run begins
abbrev pub beginning : Start → Tree → Net → Seen
beginning fresh tree net = started tree net
beginning (saved r) tree net = restored tree net (uncounted r.shot)

-- the state with which it begins, where these items are to be sent
abbrev pub state_from : Start → Tree → Net → List (List ℤ) → State
state_from fresh tree net items = first_state net items
state_from (saved r) tree net items = with_rest (state_of (restored tree net (uncounted r.shot)) []) items

-- outcomes after those that are to come of what is in the net, up to the first trap
abbrev pub outcomes_from : Start → List Outcome → List Outcome
outcomes_from fresh outcomes = outcomes
outcomes_from (saved r) outcomes = up_to_first_trap (r.ahead ++ outcomes)

-- the most firings of a run, where the net can fire this often for an item and this number of items is to be sent
abbrev pub most_from : Start → (firings count : ℕ) → ℕ
most_from fresh firings count = firings * count
most_from (saved r) firings count = r.owed + firings * (length (option_to_list r.shot.inbox) + count)

-- the firings of a run are at most those of the items that it sent itself, and those of what was in the net; the items that were sent
-- are counted from the first one of all
abbrev pub IsWithin : Start → (firings fired sent : ℕ) → Type 0
IsWithin fresh firings fired sent = fired ≤ firings * sent
IsWithin (saved r) firings fired sent = fired + firings * r.shot.sent ≤ r.owed + firings * sent

-- the number of an item, counted from the first one of all, by the number of its outcome since the run began
abbrev pub item_number : Start → ℕ → ℕ
item_number fresh k = k
item_number (saved r) k = r.shot.emitted + k

-- a run can continue from what was saved, whatever items come then: a machine can be restored from it, it is orderly, and this is what is
-- to come of it
pub record GoesOn (r : Resumption) (tree : Tree) (leaf : Leaf) (net : Net) (invariants : Invariants) : Type 0 where
  pub restores : CanRestore tree net r.shot
  pub orderly : (items : List (List ℤ)) → HaveInWords tree items → invariants.orderly (state_from (saved r) tree net items) ≡ true
  pub ahead : (items : List (List ℤ)) → HaveInWords tree items →
      invariants.to_come (state_from (saved r) tree net items) ++ map (item tree leaf 0) (option_to_list r.shot.inbox) ≡ r.ahead
  pub owed : (items : List (List ℤ)) → HaveInWords tree items → invariants.owed (state_from (saved r) tree net items) ≤ r.owed

abbrev pub CanBegin : Start → Tree → Leaf → Net → Invariants → Type 0
CanBegin fresh tree leaf net invariants = Unit {0}
CanBegin (saved r) tree leaf net invariants = GoesOn r tree leaf net invariants
