-- A timer beside a machine that is offered the items of a run one by one, and the timed run on all the items.
use Rattle.std.specs.Prelude.{◌≡◌, ◌≢◌, ℕ, ℤ, List, Option, Some, None, true}
use Rattle.p3l_base.specs.declared.outcome.Outcome.{Outcome}
use Rattle.p3l_skel.specs.declared.tree.Tree.{Tree}
use Rattle.p3l_firing.specs.declared.net.Net.{Net}
use Rattle.p3l_firing.specs.Fire.{can_fire}
use Rattle.p3l_firing.specs.Nodes.{Leaf}
use Rattle.p3l_firing.specs.Typed.{IsTyped}
use Rattle.p3l_net.specs.Machine.{Fires, Seen, can_step, started}
use Rattle.p3l_net.specs.Offered.{Follows, HasFilledInbox}
use Rattle.p3l_timed.specs.Moments.{due_at}
use Rattle.p3l_timed.specs.Clock.{Clock, HasFired, IsInStep, IsRenewed, IsStarted}
use Rattle.p3l_timed.specs.Due.{IsNext, renewed}
use Rattle.p3l_timed.specs.Price.{price_at}
use Rattle.p3l_timed.specs.Timed.{Timing, timed_step, timing_from}

-- a timer and its machine are where a timed run stands: the source may not yet be due, as long as its next item was not offered
pub record Times (k : Clock) (m : Seen) (t : Timing) : Type 0 where
  pub step : IsInStep k m
  pub moment : k.moment ≡ t.moment
  pub due : (r : ℕ) → t.due r ≡ renewed (can_fire m.tree m.net t.course.state) (price_at k.prices) k.moment (due_at k.due) r

-- they start so
abbrev pub StartsInTime : Type 0
StartsInTime =
    (tree : Tree) (net : Net) (items : List (List ℤ)) (prices : List ℕ) (k : Clock)
    → IsStarted prices (started tree net) k → Times k (started tree net) (timing_from tree net (price_at prices) items)

-- an offer leaves them there
abbrev pub OfferKeepsTime : Type 0
OfferKeepsTime =
    (m : Seen) (item : List ℤ) (t : Timing) (k new : Clock)
    → IsTyped m.tree m.net → Times k m t → m.inbox ≡ None → IsRenewed (record m { inbox = Some item }) k new
    → Times new (record m { inbox = Some item }) t

-- the clock's next process is the timing's, and none if none is, if the inbox is filled as long as items are left
pub record IsInTime (k : Clock) (t : Timing) : Type 0 where
  pub next : (p : ℕ) → IsNext (due_at k.due) p → IsNext t.due p
  pub none : ((q : ℕ) → due_at k.due q ≡ None) → (q : ℕ) → t.due q ≡ None

abbrev pub FilledIsInTime : Type 0
FilledIsInTime =
    (m : Seen) (outcomes : List Outcome) (rest : List (List ℤ)) (t : Timing) (k : Clock)
    → Follows m outcomes rest t.course → HasFilledInbox m rest → Times k m t → IsInTime k t

-- and its firing leads both on
abbrev pub FiringKeepsTime : Type 0
FiringKeepsTime =
    (m n : Seen) (outcomes : List Outcome) (rest : List (List ℤ)) (t : Timing) (k new : Clock) (leaf : Leaf) (p : ℕ) (outcome : Option Outcome)
    → IsTyped m.tree m.net → Follows m outcomes rest t.course → HasFilledInbox m rest → Times k m t → can_step m p ≡ true
    → Fires leaf m n p outcome → (p ≢ 0 → n.inbox ≡ m.inbox) → HasFired n p k new
    → Times new n (timed_step m.tree leaf m.net (price_at k.prices) t p)
