-- Runs: what a list of picks makes of a net.
use Rattle.std.specs.Prelude.{ℕ, ℤ, ◌+◌, List, cond, fold}
use Rattle.p3l_base.specs.declared.outcome.Outcome.{Outcome}
use Rattle.p3l_skel.specs.declared.tree.Tree.{Tree}
use Rattle.p3l_firing.specs.declared.net.Net.{Net}
use Rattle.p3l_firing.specs.State.{State, first_state}
use Rattle.p3l_firing.specs.Fire.{can_fire, fire}

-- a run so far: its state, with the outcomes emitted and the number of items sent, and how many picks fired and how many
-- were idle
pub record Course : Type 0 where
  pub state : State
  pub fired : ℕ
  pub idle : ℕ

-- before the first pick
abbrev pub course_from : State → Course
course_from s = record { state = s; fired = 0; idle = 0 }

-- after one pick more: the process fires where it can, and is idle else
unfoldable pub picked : Tree → (ℕ → List ℤ → Outcome) → Net → Course → ℕ → Course
picked tree leaf net c p =
    cond (can_fire tree net c.state p)
    (record c { state = fire tree leaf net c.state p; fired = c.fired + 1 })
    (record c { idle = c.idle + 1 })

-- after these picks in turn
unfoldable pub after_picks : Tree → (ℕ → List ℤ → Outcome) → Net → Course → List ℕ → Course
after_picks tree leaf net = fold (picked tree leaf net)

-- the run of a net from a state under picks
abbrev pub run_from : Tree → (ℕ → List ℤ → Outcome) → Net → State → List ℕ → Course
run_from tree leaf net s picks = after_picks tree leaf net (course_from s) picks

-- the run of a net on items under picks: the one from its first state
abbrev pub run : Tree → (ℕ → List ℤ → Outcome) → Net → List (List ℤ) → List ℕ → Course
run tree leaf net items picks = run_from tree leaf net (first_state net items) picks
