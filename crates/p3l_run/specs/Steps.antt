-- A machine that runs a network pick by pick, on items that come from a stream.
use Rattle.std.specs.Prelude.{◌≡◌, ℕ, ℤ, ◌+◌, ◌-◌, ◌≤◌, List, ◌++◌, length, Option}
use Rattle.p3l_base.specs.declared.outcome.Outcome.{Outcome}
use Rattle.p3l_firing.specs.NetInvariants.{HaveInWords}
use Rattle.p3l_net.specs.Machine.{Seen}
use Rattle.p3l_net.specs.Offered.{Follows}
use Rattle.p3l_sched.specs.declared.picker.Way.{Way}
use Rattle.p3l_sched.specs.declared.picker.Way.TheVariants as way
use Rattle.p3l_sched.specs.declared.schedule.Schedule.{Schedule}
use Rattle.p3l_sched.specs.Course.{picks_from}
use Rattle.p3l_sched.specs.Picker.{HasPlace, HasProcesses, recorded}
use Rattle.p3l_stream.specs.declared.items.Ending.{Ending}
use Rattle.p3l_trace.specs.declared.trace.TraceLine.{TraceLine}
use Rattle.p3l_trace.specs.Agreement as trace
use Rattle.p3l_run.specs.Laws.{Runs}
use Rattle.p3l_run.specs.Network.{Network, begun_with, course_under, most_firings, picks_of, size_of}
use Rattle.p3l_run.specs.Run.{MayCome}

-- the count of picks that are left: those recorded, or else one for each firing up to `bound`
abbrev pub left_of : ℕ → ℕ → Way → ℕ
left_of bound fired (way.Reads picks) = length picks
left_of bound fired w = bound - fired

-- the machine stands where the picks of these lines lead on the items given and those that come later, the picks of the schedule
-- go on from there, and each of the lines agrees
pub record IsAt (n : Network) (schedule : Schedule) (m : Seen) (way : Way) (items later : List (List ℤ)) (outcomes : List Outcome) (idle : ℕ) (walked : List TraceLine) : Type 0 where
  pub follows : Follows m outcomes later (course_under n items (trace.picks_of walked))
  pub idle_is : (course_under n items (trace.picks_of walked)).idle ≡ idle
  pub goes_on :
      trace.picks_of walked ++ picks_from n.tree n.leaf n.net (left_of (most_firings n items) m.fired way) way (course_under n items (trace.picks_of walked)) ≡ picks_of n schedule items
  pub agree : trace.AllAgree n.tree n.leaf n.net (begun_with n items) walked

-- the count of recorded picks that are left
abbrev pub unread : Way → ℕ
unread (way.Reads picks) = length picks
unread w = 0

-- there were no more idle picks than those recorded that are not left
abbrev pub HasRoom : Schedule → Way → ℕ → Type 0
HasRoom schedule w idle = idle + unread w ≤ recorded schedule

-- the machine runs the network on the items given, and whatever may still come after them, and this is the trace so far; no more
-- outcomes were emitted since the run began than there were firings
pub record Stands (n : Network) (schedule : Schedule) (m : Seen) (way : Way) (given : List (List ℤ)) (close : Option Ending) (outcomes : List Outcome) (idle : ℕ) (walked : List TraceLine) : Type 0 where
  pub runs : Runs n m
  pub wide : HaveInWords n.tree given
  pub place : HasPlace (size_of n) way
  pub named : HasProcesses (size_of n) way
  pub room : HasRoom schedule way idle
  pub few : m.emitted ≤ m.fired
  pub counts : trace.IsCounted (record { lines = walked; fired = m.fired; idle = idle })
  pub at : (later : List (List ℤ)) → MayCome n close later → IsAt n schedule m way (given ++ later) later outcomes idle walked
