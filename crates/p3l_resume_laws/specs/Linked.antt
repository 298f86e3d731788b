-- The laws of linked nets from any state in which a run of one can be.
use Rattle.std.specs.Prelude.{◌≡◌, ℕ, ℤ, ◌+◌, ◌*◌, ◌≤◌, false, List, ◌++◌, length, map}
use Rattle.p3l_base.specs.declared.outcome.Outcome.{Outcome}
use Rattle.p3l_skel.specs.Item.{item}
use Rattle.p3l_skel.specs.Numbers.{firings}
use Rattle.p3l_firing.specs.NetInvariants.{HaveInWords}
use Rattle.p3l_firing.specs.Fire.{IsStuck}
use Rattle.p3l_firing.specs.Outcomes.{up_to_first_trap}
use Rattle.p3l_firing.specs.Run.{Course, course_from, run_from}
use Rattle.p3l_firing.specs.State.{State, first_state, with_rest}
use Rattle.p3l_firing.specs.Token.{bodies, has_trap}
use Rattle.p3l_firing.specs.Typed.{IsFitting, IsTyped}
use Rattle.p3l_template.specs.Units.{Units, outcome_at}
use Rattle.p3l_link.specs.Laws.{IsLinkable, IsOrderly, linked_run, net_of}
use Rattle.p3l_link.specs.Part.{root_part}
use Rattle.p3l_link.specs.Whole.{tokens_in}
use Rattle.p3l_orderly.specs.Root.{AreBalanced}
use Rattle.p3l_sched.specs.declared.picker.Way.{Way}
use Rattle.p3l_sched.specs.Course.{picks_from}
use Rattle.p3l_firing.specs.Orderly.{Emits}
use Rattle.p3l_sched.specs.Picker.{IsMade}
use Rattle.p3l_firing.specs.Cut.{AreFilled}

-- a run of a linked net can go on from the state: the root is orderly, every token and every item has the words of its place, and
-- no trap was emitted
pub record CanResume (units : Units) (counts : List ℕ) (cap : ℕ) (typed : IsTyped units.tree (net_of units counts cap)) (s : State) : Type 0 where
  pub orderly : IsOrderly units counts s
  pub fitting : IsFitting units.tree (net_of units counts cap) typed.widths s
  pub untrapped : has_trap s.emitted ≡ false

-- each item sent was emitted, or is after the root, in it or before it
abbrev pub IsBalanced : Units → List ℕ → State → Type 0
IsBalanced units counts s = AreBalanced units counts s.sent (length s.emitted) s

-- the outcomes of channel 1, the root's pending ones, and those that come of channel 0 and of the items not yet sent
abbrev pub ahead_of : Units → List ℕ → State → List Outcome
ahead_of units counts s =
    bodies (s.tokens 1)
    ++ (bodies ((root_part units counts).pending s)
    ++ (map (outcome_at units 0) (bodies (s.tokens 0)) ++ map (item units.tree units.leaf 0) s.unsent))

-- the same, up to the first trap
abbrev pub left_in : Units → List ℕ → State → List Outcome
left_in units counts s = up_to_first_trap (ahead_of units counts s)

-- a bound on the firings that a linked net has left in a state
abbrev pub firings_left : Units → List ℕ → (cap : ℕ) → State → ℕ
firings_left units counts cap s = firings units.tree counts * (tokens_in (net_of units counts cap) s + length s.unsent)

-- the run of a linked net from a state
abbrev pub resumed : Units → List ℕ → (cap : ℕ) → State → List ℕ → Course
resumed units counts cap s picks = run_from units.tree units.leaf (net_of units counts cap) s picks

-- the picks of a schedule for it, at most `most`
abbrev pub resumed_picks : Units → List ℕ → (cap most : ℕ) → Way → State → List ℕ
resumed_picks units counts cap most way s = picks_from units.tree units.leaf (net_of units counts cap) most way (course_from s)

-- before anything has fired a run can be resumed, and is balanced
abbrev pub EveryStartCanResume : Type 0
EveryStartCanResume =
    (units : Units) (counts : List ℕ) (cap : ℕ) (typed : IsTyped units.tree (net_of units counts cap)) (items : List (List ℤ))
    → IsLinkable units counts cap → HaveInWords units.tree items
    → CanResume units counts cap typed (first_state (net_of units counts cap) items)

abbrev pub EveryStartIsBalanced : Type 0
EveryStartIsBalanced =
    (units : Units) (counts : List ℕ) (cap : ℕ) (items : List (List ℤ))
    → IsLinkable units counts cap → HaveInWords units.tree items → IsBalanced units counts (first_state (net_of units counts cap) items)

-- whatever the picks, what is reached without a trap can be resumed again, and stays balanced
abbrev pub EveryRunCanResume : Type 0
EveryRunCanResume =
    (units : Units) (counts : List ℕ) (cap : ℕ) (typed : IsTyped units.tree (net_of units counts cap)) (s : State) (picks : List ℕ)
    → IsLinkable units counts cap → CanResume units counts cap typed s
    → has_trap (resumed units counts cap s picks).state.emitted ≡ false
    → CanResume units counts cap typed (resumed units counts cap s picks).state

abbrev pub EveryRunStaysBalanced : Type 0
EveryRunStaysBalanced =
    (units : Units) (counts : List ℕ) (cap : ℕ) (s : State) (picks : List ℕ)
    → IsLinkable units counts cap → IsOrderly units counts s → IsBalanced units counts s
    → IsBalanced units counts (resumed units counts cap s picks).state

-- more items may come after those not yet sent
abbrev pub EveryRestCanResume : Type 0
EveryRestCanResume =
    (units : Units) (counts : List ℕ) (cap : ℕ) (typed : IsTyped units.tree (net_of units counts cap)) (s : State)
    (rest : List (List ℤ))
    → IsLinkable units counts cap → CanResume units counts cap typed s → HaveInWords units.tree rest
    → CanResume units counts cap typed (with_rest s rest)

-- whatever the picks, what is emitted begins what is left, and is all of it where nothing can fire
abbrev pub EveryResumedRunEmitsWhatIsLeft : Type 0
EveryResumedRunEmitsWhatIsLeft =
    (units : Units) (counts : List ℕ) (cap : ℕ) (typed : IsTyped units.tree (net_of units counts cap)) (s : State) (picks : List ℕ)
    → IsLinkable units counts cap → CanResume units counts cap typed s
    → Emits units.tree (net_of units counts cap) (left_in units counts s) s (resumed units counts cap s picks).state

-- it fires at most as often as its tokens and items can make it, and comes to an end by turns and by draws
abbrev pub ResumedFiringsAreBounded : Type 0
ResumedFiringsAreBounded =
    (units : Units) (counts : List ℕ) (cap : ℕ) (s : State) (picks : List ℕ)
    → IsLinkable units counts cap → IsOrderly units counts s
    → (resumed units counts cap s picks).fired ≤ firings_left units counts cap s

abbrev pub EveryResumedRunEnds : Type 0
EveryResumedRunEnds =
    (units : Units) (counts : List ℕ) (cap : ℕ) (s : State) (way : Way) (most : ℕ)
    → IsLinkable units counts cap → IsOrderly units counts s
    → IsMade (length (net_of units counts cap).procs) way → firings_left units counts cap s ≤ most
    → IsStuck units.tree (net_of units counts cap)
    (resumed units counts cap s (resumed_picks units counts cap most way s)).state

-- saved after picks a on items u, and resumed under picks b with the items w, both parts together fire at most as often as is said
-- of the items that were sent
abbrev pub BothPartsAreBounded : Type 0
BothPartsAreBounded =
    (units : Units) (counts : List ℕ) (cap : ℕ) (u w : List (List ℤ)) (a b : List ℕ)
    → IsLinkable units counts cap → HaveInWords units.tree (u ++ w)
    → AreFilled units.tree units.leaf (net_of units counts cap) (first_state (net_of units counts cap) u) a w
    → (linked_run units counts cap u a).fired
    + (resumed units counts cap (with_rest (linked_run units counts cap u a).state w) b).fired
    ≤ firings units.tree counts * (resumed units counts cap (with_rest (linked_run units counts cap u a).state w) b).state.sent
