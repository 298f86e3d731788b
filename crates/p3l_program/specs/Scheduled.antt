-- Schedules that words and files request.
use Rattle.std.specs.Prelude.{◌≡◌, ◌≢◌, ℕ, List, Ok, Err, Option}
use Rattle.p3l_io.specs.Content.{Held}
use Rattle.p3l_opts.specs.declared.command.Sched.{Sched}
use Rattle.p3l_opts.specs.declared.command.Sched.TheVariants as sched
use Rattle.p3l_run.specs.Network.{Network, size_of}
use Rattle.p3l_sched.specs.declared.refusal.PickRefusal.{PickRefusal}
use Rattle.p3l_sched.specs.declared.refusal.PickRefusal.TheVariants as refusals
use Rattle.p3l_sched.specs.declared.schedule.Schedule.{Schedule}
use Rattle.p3l_sched.specs.declared.schedule.Schedule.TheVariants as schedule
use Rattle.p3l_sched.specs.Picks.{Reads}
use Rattle.p3l_program.specs.File.{HasText}
use Rattle.p3l_program.specs.Plan.{HaveTexts, IsNetworkOf, Texts}
use Rattle.p3l_program.specs.Origin.{Origin}

-- the most bytes of a file of picks
abbrev pub picks_limit : ℕ
picks_limit = 67108864

-- the file of this name has picks of this number of processes
pub record HasPicks (files : Option Held) (count : ℕ) (name : List ℕ) (s : Schedule) : Type 0 where
  pub text : List ℕ
  pub has : HasText files picks_limit name text
  pub picks : List ℕ
  pub reads : Reads text count (Ok picks)
  pub is : s ≡ schedule.Recorded picks

-- the schedule of a net of this number of processes
abbrev pub HasSchedule : Option Held → ℕ → Sched → Schedule → Type 0
HasSchedule files count sched.RoundRobin s = s ≡ schedule.RoundRobin
HasSchedule files count (sched.Seeded seed) s = s ≡ schedule.Seeded seed
HasSchedule files count (sched.File name) s = HasPicks files count name s

-- a text has no picks for the network of what is run, for this word
pub record IsUnscheduled (origin : Origin) (texts : Texts) (picks : List ℕ) (why : PickRefusal) : Type 0 where
  pub n : Network
  pub is : IsNetworkOf origin texts n
  pub reads : Reads picks (size_of n) (Err why)
  pub named : why ≢ refusals.NoMemory
  pub never : (other : Network) (read : List ℕ) → IsNetworkOf origin texts other → Reads picks (size_of other) (Ok read) → ⊥

-- the same of files
pub record HasNoPicks (files : Option Held) (origin : Origin) (name : List ℕ) (why : PickRefusal) : Type 0 where
  pub texts : Texts
  pub have : HaveTexts files origin texts
  pub picks : List ℕ
  pub held : HasText files picks_limit name picks
  pub refused : IsUnscheduled origin texts picks why
