-- Timed runs: a run of a net whose picks are made by the moments at which its processes are due.
use Rattle.std.specs.Prelude.{◌≡◌, ℕ, ℤ, ◌*◌, List, [], ◌∷◌, Option, None, unwrap_or, fold, sum_by}
use Rattle.std.specs.List.{range_with_len}
use Rattle.p3l_skel.specs.declared.tree.Tree.{Tree}
use Rattle.p3l_firing.specs.declared.net.Net.{Net}
use Rattle.p3l_firing.specs.Fire.{can_fire}
use Rattle.p3l_firing.specs.Nodes.{Leaf}
use Rattle.p3l_firing.specs.Process.{times}
use Rattle.p3l_firing.specs.Run.{Course, course_from, picked}
use Rattle.p3l_firing.specs.State.{first_state}
use Rattle.p3l_timed.specs.Due.{IsNext, nothing_due, renewed, without}

-- a timed run so far: the run, the moment, and when each process is due that can fire
pub record Timing : Type 0 where
  pub course : Course
  pub moment : ℕ
  pub due : ℕ → Option ℕ

-- before the first firing: each process that can fire is due at its price
abbrev pub timing_from : Tree → Net → (ℕ → ℕ) → List (List ℤ) → Timing
timing_from tree net price items =
    record {
      course = course_from (first_state net items);
      moment = 0;
      due = renewed (can_fire tree net (first_state net items)) price 0 nothing_due;
    }

-- the moment at which process p fires
abbrev pub moment_of : Timing → ℕ → ℕ
moment_of t p = unwrap_or (t.due p) t.moment

-- after process p fired at the moment at which it was due: if it can fire again it is due at that moment plus its price; another
-- process keeps its due moment while it can fire, and is due at that moment plus its price where it became able to
unfoldable pub timed_step : Tree → Leaf → Net → (ℕ → ℕ) → Timing → ℕ → Timing
timed_step tree leaf net price t p =
    let next : Course = picked tree leaf net t.course p in
    record {
      course = next;
      moment = moment_of t p;
      due = renewed (can_fire tree net next.state) price (moment_of t p) (without p t.due);
    }

-- after these firings in turn
unfoldable pub timed_after : Tree → Leaf → Net → (ℕ → ℕ) → Timing → List ℕ → Timing
timed_after tree leaf net price = fold (timed_step tree leaf net price)

-- these are firings each of the process that is due next, until none is due
unfoldable pub FiresInTime : Tree → Leaf → Net → (ℕ → ℕ) → Timing → List ℕ → Type 0
FiresInTime tree leaf net price t [] = (q : ℕ) → t.due q ≡ None
FiresInTime tree leaf net price t (p ∷ picks) = IsNext t.due p × FiresInTime tree leaf net price (timed_step tree leaf net price t p) picks

-- these are firings each of the process that is due next, whatever is due after them
unfoldable pub FiresNext : Tree → Leaf → Net → (ℕ → ℕ) → Timing → List ℕ → Type 0
FiresNext tree leaf net price t [] = Unit {0}
FiresNext tree leaf net price t (p ∷ picks) = IsNext t.due p × FiresNext tree leaf net price (timed_step tree leaf net price t p) picks

-- THE TIMED RUN of a net on items: these are its picks
abbrev pub IsTimed : Tree → Leaf → Net → (ℕ → ℕ) → List (List ℤ) → List ℕ → Type 0
IsTimed tree leaf net price items picks = FiresInTime tree leaf net price (timing_from tree net price items) picks

-- it begins with these picks
abbrev pub BeginsTimed : Tree → Leaf → Net → (ℕ → ℕ) → List (List ℤ) → List ℕ → Type 0
BeginsTimed tree leaf net price items picks = FiresNext tree leaf net price (timing_from tree net price items) picks

-- the moment of its last firing
abbrev pub finish_of : Tree → Leaf → Net → (ℕ → ℕ) → List (List ℤ) → List ℕ → ℕ
finish_of tree leaf net price items picks = (timed_after tree leaf net price (timing_from tree net price items) picks).moment

-- the busy time of process p in all: its price at each of its firings
abbrev pub busy_of : (ℕ → ℕ) → List ℕ → ℕ → ℕ
busy_of price picks p = times p picks * price p

-- the busy time of the first n processes in all
abbrev pub all_busy : (ℕ → ℕ) → List ℕ → ℕ → ℕ
all_busy price picks n = sum_by (busy_of price picks) (range_with_len 0 n)
