-- The words that spell a command.
use Rattle.std.specs.Prelude.{◌≡◌, ℕ, ◌≤◌, ◌<◌, ◌^◌, ◌++◌, Bool, false, List, [], Err, Ok, Option, Result, Some, None, bytes_eq, codes, map, slice_get}
use Rattle.std.specs.Borrow.{Bor}
use Rattle.std.specs.Fmt.{decimal}
use Rattle.std.specs.Option.{option_and_then}
use Rattle.clap.specs.Words.{Row, Text, first_of}
use Rattle.p3l_base.specs.Memory.{Refused}
use Rattle.p3l_opts.specs.declared.command.Build.{Build}
use Rattle.p3l_opts.specs.declared.command.Command.{Command}
use Rattle.p3l_opts.specs.declared.command.Command.TheVariants as command
use Rattle.p3l_opts.specs.declared.command.Exported.{Exported}
use Rattle.p3l_opts.specs.declared.command.OptsRefusal.{OptsRefusal}
use Rattle.p3l_opts.specs.declared.command.OptsRefusal.TheVariants.{NoMemory, Usage}
use Rattle.p3l_opts.specs.declared.command.Sched.{Sched}
use Rattle.p3l_opts.specs.declared.command.Sched.TheVariants as sched
use Rattle.p3l_opts.specs.declared.word.Range.{Range}
use Rattle.p3l_opts.specs.declared.word.TheConstants.{ADVISED, CAPACITY, ITEMS, PROCESSORS, SEGMENTS}
use Rattle.p3l_opts.specs.declared.word.Value.{Value}
use Rattle.p3l_opts.specs.declared.word.Value.TheVariants.{Capacity, Cert, Costs, Image, Items, Number, Output, Picks, Processes, Processors, Program, Recorded, Save, Schedule, Segments, Snapshot, Stats, Trace}
use Rattle.p3l_opts.specs.declared.table.Verb.{Verb}
use Rattle.p3l_opts.specs.declared.table.Verb.TheVariants as verb
use Rattle.p3l_opts.specs.App.{faults, rows}
use Rattle.p3l_opts.specs.Table.{Entry, entry_named}
use Rattle.p3l_opts.specs.Word.{name_of}

-- the texts of the words
abbrev pub texts_of : List (Bor Text) → List Text
texts_of words = map (λ word. word.now) words

-- the text that was found for a value
abbrev pub text_of : Value → List Row → Option Text
text_of value found = first_of (name_of value) found

-- the verb of a command
abbrev pub verb_of : Command → Verb
verb_of (command.Check program) = verb.Check
verb_of (command.Fmt program) = verb.Fmt
verb_of (command.Explain build cert) = verb.Explain
verb_of (command.Advise build processes) = verb.Advise
verb_of (command.Compile build output) = verb.Compile
verb_of (command.Run build schedule trace stats) = verb.Run
verb_of (command.Exec image schedule trace stats) = verb.Exec
verb_of (command.Migrate image output) = verb.Migrate
verb_of (command.Export exported output) = verb.Export
verb_of (command.Graph build) = verb.Graph
verb_of (command.VerifyCert program cert costs) = verb.VerifyCert
verb_of (command.CheckTrace build trace) = verb.CheckTrace
verb_of (command.Gen number processors items schedule save) = verb.Gen
verb_of (command.Rewrite program processors costs) = verb.Rewrite
verb_of (command.Profile program) = verb.Profile
verb_of (command.Time build picks) = verb.Time
verb_of (command.Scan program segments schedule capacity stats) = verb.Scan
verb_of (command.Save build picks output) = verb.Save
verb_of (command.Resume snapshot schedule stats) = verb.Resume

-- the text is a count from 1 to `most`, in decimal digits without a sign and without a leading zero
pub record IsCount (most : ℕ) (text : Text) (count : ℕ) : Type 0 where
  pub spelled : text ≡ decimal count
  pub least : 1 ≤ count
  pub most_is : count ≤ most

-- the text is a count of the range, whose default stands where no word spells one
abbrev pub HasCount : Range → Option Text → ℕ → Type 0
HasCount range None count = range.default ≡ Some count
HasCount range (Some text) count = IsCount range.most text count

-- the same of a capacity of all channels, which is chosen for each where no word spells it
abbrev pub HasChoice : Option Text → Option ℕ → Type 0
HasChoice None capacity = capacity ≡ None
HasChoice (Some text) None = ⊥
HasChoice (Some text) (Some capacity) = IsCount CAPACITY.most text capacity

-- the text is `rr`, `seed:N` with a number of 64 bits in decimal digits without a leading zero, or `file:NAME`
abbrev pub SpellsSchedule : Text → Sched → Type 0
SpellsSchedule text sched.RoundRobin = text ≡ codes "rr"
SpellsSchedule text (sched.Seeded seed) = (text ≡ codes "seed:" ++ decimal seed) × (seed < 2 ^ 64)
SpellsSchedule text (sched.File name) = text ≡ codes "file:" ++ name

-- the same of a schedule, which is `rr` where no word spells it
abbrev pub HasSchedule : Option Text → Sched → Type 0
HasSchedule None schedule = schedule ≡ sched.RoundRobin
HasSchedule (Some text) schedule = SpellsSchedule text schedule

-- the text of a flag is that of `true`
abbrev pub says_true : Option Text → Bool
says_true None = false
says_true (Some text) = bytes_eq text (codes "true")

-- the text is a number of 32 bits, in decimal digits without a sign and without a leading zero
pub record HasNumber (text : Option Text) (number : ℕ) : Type 0 where
  pub spelled : text ≡ Some (decimal number)
  pub most_is : number < 2 ^ 32

-- picks don't come from a file
abbrev pub IsMade : Sched → Type 0
IsMade sched.RoundRobin = Unit {0}
IsMade (sched.Seeded seed) = Unit {0}
IsMade (sched.File name) = ⊥

-- the program, the processors and the costs that are requested, where processors have this range
pub record HasPriced (range : Range) (found : List Row) (program : Text) (processors : ℕ) (costs : Option Text) : Type 0 where
  pub program_is : text_of Program found ≡ Some program
  pub processors_are : HasCount range (text_of Processors found) processors
  pub costs_are : costs ≡ text_of Costs found

-- the rows request this build, if processors have this range and capacity has this text
pub record HasBuild (range : Range) (found : List Row) (capacity : Option Text) (build : Build) : Type 0 where
  pub priced : HasPriced range found build.program build.processors build.costs
  pub capacity_is : HasCount CAPACITY capacity build.capacity

-- the rows request this export of a program
pub record HasExported (found : List Row) (exported : Exported) : Type 0 where
  pub priced : HasPriced PROCESSORS found exported.program exported.processors exported.costs
  pub capacity_is : HasChoice (text_of Capacity found) exported.capacity

-- the rows request this schedule, trace and report of a run
pub record HasRun (found : List Row) (schedule : Sched) (trace : Option Text) (stats : Bool) : Type 0 where
  pub picks : HasSchedule (text_of Schedule found) schedule
  pub traced : trace ≡ text_of Trace found
  pub reported : stats ≡ says_true (text_of Stats found)

-- the rows request this generated program and its run
pub record HasGen (found : List Row) (number processors items : ℕ) (schedule : Sched) (save : Option Text) : Type 0 where
  pub number_is : HasNumber (text_of Number found) number
  pub processors_are : HasCount PROCESSORS (text_of Processors found) processors
  pub items_are : HasCount ITEMS (text_of Items found) items
  pub picks : HasSchedule (text_of Schedule found) schedule
  pub made : IsMade schedule
  pub saved : save ≡ text_of Save found

-- the rows request this scan in a number of segments, and its run
pub record HasScan (found : List Row) (program : Text) (segments : ℕ) (schedule : Sched) (capacity : ℕ) (stats : Bool) : Type 0 where
  pub program_is : text_of Program found ≡ Some program
  pub segments_are : HasCount SEGMENTS (text_of Segments found) segments
  pub picks : HasSchedule (text_of Schedule found) schedule
  pub capacity_is : HasCount CAPACITY (text_of Capacity found) capacity
  pub reported : stats ≡ says_true (text_of Stats found)

-- the rows request this build, this file of its picks and this file for its state
pub record HasSave (found : List Row) (build : Build) (picks output : Text) : Type 0 where
  pub build_is : HasBuild PROCESSORS found (text_of Capacity found) build
  pub recorded : HasSchedule (text_of Recorded found) (sched.File picks)
  pub output_is : text_of Output found ≡ Some output

-- from which file a run goes on, and how
pub record HasResume (found : List Row) (snapshot : Text) (schedule : Sched) (stats : Bool) : Type 0 where
  pub snapshot_is : text_of Snapshot found ≡ Some snapshot
  pub picks : HasSchedule (text_of Schedule found) schedule
  pub reported : stats ≡ says_true (text_of Stats found)

-- the values of a command are those that were found, of which those that no word spells have their defaults
abbrev pub HasValues : List Row → Command → Type 0
HasValues found (command.Check program) = text_of Program found ≡ Some program
HasValues found (command.Fmt program) = text_of Program found ≡ Some program
HasValues found (command.Explain build cert) = HasBuild PROCESSORS found None build × (cert ≡ text_of Cert found)
HasValues found (command.Advise build processes) = HasBuild ADVISED found None build × (processes ≡ says_true (text_of Processes found))
HasValues found (command.Compile build output) = HasBuild PROCESSORS found (text_of Capacity found) build × (text_of Output found ≡ Some output)
HasValues found (command.Run build schedule trace stats) = HasBuild PROCESSORS found (text_of Capacity found) build × HasRun found schedule trace stats
HasValues found (command.Exec image schedule trace stats) = (text_of Image found ≡ Some image) × HasRun found schedule trace stats
HasValues found (command.Migrate image output) = (text_of Image found ≡ Some image) × (text_of Output found ≡ Some output)
HasValues found (command.Export exported output) = HasExported found exported × (text_of Output found ≡ Some output)
HasValues found (command.Graph build) = HasBuild PROCESSORS found (text_of Capacity found) build
HasValues found (command.VerifyCert program cert costs) =
    (text_of Program found ≡ Some program) × (text_of Cert found ≡ Some cert) × (costs ≡ text_of Costs found)
HasValues found (command.CheckTrace build trace) = HasBuild PROCESSORS found (text_of Capacity found) build × (text_of Trace found ≡ Some trace)
HasValues found (command.Gen number processors items schedule save) = HasGen found number processors items schedule save
HasValues found (command.Rewrite program processors costs) = HasPriced PROCESSORS found program processors costs
HasValues found (command.Profile program) = text_of Program found ≡ Some program
HasValues found (command.Time build picks) = HasBuild PROCESSORS found (text_of Capacity found) build × (picks ≡ text_of Picks found)
HasValues found (command.Scan program segments schedule capacity stats) = HasScan found program segments schedule capacity stats
HasValues found (command.Save build picks output) = HasSave found build picks output
HasValues found (command.Resume snapshot schedule stats) = HasResume found snapshot schedule stats

-- it is the command of this verb, with the values that were found
pub record IsCommand (verb : Verb) (found : List Row) (command : Command) : Type 0 where
  pub verb_is : verb_of command ≡ verb
  pub values : HasValues found command

-- the answer of a parser: a value of which this holds, that the words spell none, or that an
-- allocation was refused
abbrev pub Parses : {A : Type 0} → (A → Type 0) → Result A OptsRefusal → Type 0
Parses Holds (Ok value) = Holds value
Parses {A} Holds (Err Usage) = (value : A) → Holds value → ⊥
Parses Holds (Err NoMemory) = Refused

-- the first word names the command, `clap` takes those after it, and its values are what they spell
pub record Spells (words : List Text) (command : Command) : Type 0 where
  pub entry : Entry
  pub named : option_and_then entry_named (slice_get words 0) ≡ Some entry
  pub verb_is : verb_of command ≡ entry.0
  pub taken : faults entry words ≡ []
  pub values : HasValues (rows entry words) command
