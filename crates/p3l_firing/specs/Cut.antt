-- Runs that are cut in two.
use Rattle.std.specs.Prelude.{ℕ, ℤ, ◌+◌, List, [], ◌∷◌, ◌++◌}
use Rattle.p3l_base.specs.declared.outcome.Outcome.{Outcome}
use Rattle.p3l_skel.specs.declared.tree.Tree.{Tree}
use Rattle.p3l_firing.specs.declared.net.Net.{Net}
use Rattle.p3l_firing.specs.Nodes.{Leaf}
use Rattle.p3l_firing.specs.Run.{Course, course_from, picked}
use Rattle.p3l_firing.specs.State.{State, IsFilled}

-- a run with the firings and idle picks of a run before it
abbrev pub after_run : Course → Course → Course
after_run before c = record c { fired = before.fired + c.fired; idle = before.idle + c.idle }

-- the state in which these outcomes were emitted before its own
abbrev pub with_earlier : List Outcome → State → State
with_earlier earlier s = record s { emitted = earlier ++ s.emitted }

-- the run in which these outcomes were emitted before its own
abbrev pub run_with_earlier : List Outcome → Course → Course
run_with_earlier earlier c = record c { state = with_earlier earlier c.state }

-- at each of these picks the source has an item, unless there are none in the rest
unfoldable pub AreFilledFrom : Tree → Leaf → Net → Course → List ℕ → List (List ℤ) → Type 0
AreFilledFrom tree leaf net c [] rest = Unit {0}
AreFilledFrom tree leaf net c (p ∷ picks) rest =
    IsFilled c.state rest × AreFilledFrom tree leaf net (picked tree leaf net c p) picks rest

-- the same of a run from a state
abbrev pub AreFilled : Tree → Leaf → Net → State → List ℕ → List (List ℤ) → Type 0
AreFilled tree leaf net s = AreFilledFrom tree leaf net (course_from s)
