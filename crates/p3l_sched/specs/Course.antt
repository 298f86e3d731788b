-- The picks of a schedule for a run.
use Rattle.std.specs.Prelude.{ℕ, ℤ, zero, suc, ◌*◌, List, [], ◌∷◌, length, Option, None, Some}
use Rattle.p3l_skel.specs.declared.tree.Tree.{Tree}
use Rattle.p3l_firing.specs.declared.net.Net.{Net}
use Rattle.p3l_firing.specs.Fire.{can_fire}
use Rattle.p3l_firing.specs.Nodes.{Leaf}
use Rattle.p3l_firing.specs.Run.{Course, course_from, picked}
use Rattle.p3l_firing.specs.State.{first_state}
use Rattle.p3l_sched.specs.declared.picker.Way.{Way}
use Rattle.p3l_sched.specs.declared.schedule.Schedule.{Schedule}
use Rattle.p3l_sched.specs.declared.schedule.Schedule.TheVariants as schedule
use Rattle.p3l_sched.specs.Picker.{after_pick, begun, pick_of, ready_of}

-- a pick and those after it, where some of these can fire and there is a pick
abbrev pub pick_before : List ℕ → Option ℕ → (ℕ → List ℕ) → List ℕ
pick_before [] pick later = []
pick_before (p ∷ ps) None later = []
pick_before (p ∷ ps) (Some pick) later = pick ∷ later pick

-- the picks from where a run is, each made on the state that those before it lead to; they end at
-- the first state in which no process can fire, where recorded picks are ended, and after `most`
-- picks
unfoldable pub picks_from : Tree → Leaf → Net → ℕ → Way → Course → List ℕ
picks_from tree leaf net zero way c = []
picks_from tree leaf net (suc most) way c =
    pick_before (ready_of (can_fire tree net c.state) (length net.procs)) (pick_of (can_fire tree net c.state) (length net.procs) way)
    (λ p. picks_from tree leaf net most (after_pick (length net.procs) way p) (picked tree leaf net c p))

-- the most picks of a schedule, if a run has at most `bound`
abbrev pub most_picks : Schedule → ℕ → ℕ
most_picks schedule.RoundRobin bound = bound
most_picks (schedule.Seeded seed) bound = bound
most_picks (schedule.Recorded picks) bound = length picks

-- the picks of a schedule for the run of a net on items, which fires at most `firings` times for
-- each
unfoldable pub picks_of : Tree → Leaf → Net → ℕ → Schedule → List (List ℤ) → List ℕ
picks_of tree leaf net firings schedule items =
    picks_from tree leaf net (most_picks schedule (firings * length items)) (begun schedule) (course_from (first_state net items))
