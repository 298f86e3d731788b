-- The command `gen`: a program that is generated with its costs and its items, run in memory.
use Rattle.std.specs.Prelude.{◌≡◌, ◌≢◌, ℕ, ℤ, ◌*◌, ◌≤◌, List, [], ◌∷◌, ◌++◌, Bool, true, false, Option, Some, None, codes, if◌then◌else◌}
use Rattle.p3l_io.specs.Change.{Change, HasRisen, HasSameFaults, IsStill}
use Rattle.p3l_io.specs.Content.{Held}
use Rattle.std.specs.Fmt.{decimal, signed_decimal}
use Rattle.p3l_gen.specs.declared.texts.Generated.{Generated}
use Rattle.p3l_gen.specs.Texts.{costs_text, program_text, stream_text}
use Rattle.p3l_skel.specs.Numbers.{procs}
use Rattle.p3l_cost.specs.declared.costs.Costs.{Costs}
use Rattle.p3l_model.specs.Service.{service}
use Rattle.p3l_opts.specs.declared.command.Sched.{Sched}
use Rattle.p3l_opts.specs.declared.command.Sched.TheVariants as sched
use Rattle.p3l_report.specs.declared.stats.Stats.{Stats}
use Rattle.p3l_report.specs.declared.verdict.Finish.{Finish}
use Rattle.p3l_report.specs.declared.verdict.Finish.TheVariants.{Run}
use Rattle.p3l_report.specs.declared.verdict.Verdict.{Verdict}
use Rattle.p3l_report.specs.declared.verdict.Verdict.TheVariants as verdict
use Rattle.p3l_report.specs.Line.{numbers_text}
use Rattle.p3l_report.specs.Status as status
use Rattle.p3l_report.specs.Verdict.{end_status}
use Rattle.p3l_run.specs.declared.end.RunEnd.{RunEnd}
use Rattle.p3l_run.specs.declared.end.RunEnd.TheVariants as ends
use Rattle.p3l_run.specs.declared.end.RunStats.{RunStats}
use Rattle.p3l_run.specs.declared.run.Ran.{Ran}
use Rattle.p3l_run.specs.Network.{Network, course_of, goes_on, meaning_of, picks_of, stats_of, width_of}
use Rattle.p3l_run.specs.Run.{finish_of}
use Rattle.p3l_run.specs.Sum.{sum_of}
use Rattle.p3l_run.specs.Write.{HasBegun, HasPut}
use Rattle.p3l_sched.specs.declared.schedule.Schedule.{Schedule}
use Rattle.p3l_sched.specs.declared.schedule.Schedule.TheVariants as schedule
use Rattle.p3l_stream.specs.declared.items.Ending.TheVariants as ending
use Rattle.p3l_stream.specs.Items.{items_of}
use Rattle.p3l_check.specs.Resolving.{ResolvedTree}
use Rattle.p3l_program.specs.declared.plan.Allotted.{Allotted}
use Rattle.p3l_program.specs.Plan.{ComesTo, IsAllotted, network_of}
use Rattle.p3l_program.specs.Behavior.{Behavior}
use Rattle.p3l_program.specs.Expected.{IsExpectedWith}
use Rattle.p3l_program.specs.Load.{IsNotLoaded}
use Rattle.p3l_program.specs.Saved.{AreSaved, HasOneFailed, KeepsBut, KeepsFirst, names_of}
use Rattle.p3l_program.specs.Stage.{Stage, text_fitting, text_kept, text_priced}
use Rattle.p3l_program.specs.Text.{BeginsText}
use Rattle.p3l_program.specs.World.{World, world}

-- a request: the number of the texts, the numbers of processors and of items, the schedule, and the beginning of the names of
-- the files that the texts are saved to, if they are
pub record Gen : Type 0 where
  pub number : ℕ
  pub processors : ℕ
  pub items : ℕ
  pub request : Sched
  pub prefix : Option (List ℕ)

abbrev pub gen_of : (number processors items : ℕ) → Sched → Option (List ℕ) → Gen
gen_of number processors items request prefix = record { number = number; processors = processors; items = items; request = request; prefix = prefix }

-- the files of three texts, each a name and its bytes
abbrev pub saves_for : (prefix program costs stream : List ℕ) → List (List ℕ × List ℕ)
saves_for prefix program costs stream = (prefix ++ codes ".p3l", program) ∷ ((prefix ++ codes ".toml", costs) ∷ ((prefix ++ codes ".txt", stream) ∷ []))

-- and none where no name begins so
abbrev pub saves_with : Option (List ℕ) → (program costs stream : List ℕ) → List (List ℕ × List ℕ)
saves_with None program costs stream = []
saves_with (Some prefix) program costs stream = saves_for prefix program costs stream

-- those that are requested
abbrev pub saves_of : Gen → List (List ℕ × List ℕ)
saves_of g = saves_with g.prefix (program_text g.number) costs_text (stream_text g.number g.items)

-- counts are chosen for the program and the costs of texts
abbrev pub text_stages : (text said : List ℕ) (processors : ℕ) → List Stage
text_stages text said processors = text_kept text ∷ (text_priced text said ∷ (text_fitting text said processors ∷ []))

abbrev pub gen_stages : Gen → List Stage
gen_stages g = text_stages (program_text g.number) costs_text g.processors

-- the picks of a schedule that is made and not read
abbrev pub IsPicked : Sched → Schedule → Type 0
IsPicked sched.RoundRobin s = s ≡ schedule.RoundRobin
IsPicked (sched.Seeded seed) s = s ≡ schedule.Seeded seed
IsPicked (sched.File name) s = ⊥

-- the most tokens that a channel holds
abbrev pub gen_capacity : ℕ
gen_capacity = 4

-- a run comes to the end of its items without a trap
abbrev pub comes_whole : RunEnd → Bool
comes_whole (ends.Stream ending.End) = true
comes_whole f = false

-- a network was run under a schedule on all items of a text, to this end, with these numbers and this sum of the words emitted, which
-- are those of the meaning of the items where the run came to the end of the text
pub record IsRanOn (n : Network) (s : Schedule) (text : List ℕ) (f : RunEnd) (numbers : RunStats) (sum : ℤ) : Type 0 where
  pub ends : f ≡ finish_of n (course_of n s (items_of (width_of n) text).items) (items_of (width_of n) text).ending
  pub stats_are : numbers ≡ stats_of n (course_of n s (items_of (width_of n) text).items)
  pub bounded : numbers.fired ≤ n.firings * numbers.items
  pub stops : goes_on n (course_of n s (items_of (width_of n) text).items) ≡ true → s ≡ schedule.Recorded (picks_of n s (items_of (width_of n) text).items)
  pub sum_is : sum ≡ sum_of (course_of n s (items_of (width_of n) text).items).state.emitted
  pub whole : comes_whole f ≡ true → (course_of n s (items_of (width_of n) text).items).state.emitted ≡ meaning_of n (items_of (width_of n) text).items

-- the same under the schedule that is requested
pub record IsRanUnder (n : Network) (request : Sched) (text : List ℕ) (ran : Ran) : Type 0 where
  pub s : Schedule
  pub picked : IsPicked request s
  pub on : IsRanOn n s text ran.finish ran.stats ran.sum

-- gen N: NUMBERS, service T, used U, sum S
abbrev pub summary_line : (number : ℕ) → RunStats → (service used : ℕ) → (sum : ℤ) → List ℕ
summary_line number numbers service used sum =
    codes "gen " ++ (decimal number ++ (codes ": " ++ (numbers_text numbers
    ++ (codes ", service " ++ (decimal service ++ (codes ", used " ++ (decimal used ++ (codes ", sum " ++ (signed_decimal sum ++ codes "\n")))))))))

-- it is expected where the run comes to the end of its items
abbrev pub line_at : RunEnd → List ℕ → List ℕ
line_at f line = if comes_whole f then line else []

-- the run of what is generated came to this end, of which this text is expected
pub record IsGenerated (g : Gen) (f : RunEnd) (text : List ℕ) : Type 0 where
  pub r : ResolvedTree
  pub cs : Costs
  pub counts : List ℕ
  pub allotted : IsAllotted (program_text g.number) (Some costs_text) g.processors r cs counts
  pub s : Schedule
  pub picked : IsPicked g.request s
  pub numbers : RunStats
  pub sum : ℤ
  pub ran : IsRanOn (network_of r counts gen_capacity) s (stream_text g.number g.items) f numbers sum
  pub text_is : text ≡ line_at f (summary_line g.number numbers (service r.tree cs counts 0) (procs r.tree counts 0) sum)

-- a text is that of some end
abbrev pub IsGenText : Gen → List ℕ → Type 0
IsGenText g text = (f : RunEnd) × IsGenerated g f text

-- the texts were saved where that is requested, and run to this end, and its text was written; nothing was taken
pub record EndsGen (w : World) (g : Gen) (f : Finish) (stats : Option Stats) : Type 0 where
  pub end : RunEnd
  pub finish_is : f ≡ Run end
  pub stats_are : stats ≡ None
  pub text : List ℕ
  pub is : IsGenerated g end text
  pub put : HasPut w.output text
  pub input : IsStill w.input
  pub saved : AreSaved w.files (saves_of g)

-- over an input and an output that report: the run came to the end of the items, and its line was written, whole
pub record GensWhole (w : World) (g : Gen) (rest taken : List ℕ) : Type 0 where
  pub text : List ℕ
  pub is : IsGenerated g (ends.Stream ending.End) text
  pub rest_stays : w.input.new.content ≡ Some rest
  pub taken_is : w.output.new.content ≡ Some (taken ++ text)
  pub saved : AreSaved w.files (saves_of g)

-- the command is expected to end with this status, which is never that of a stop
pub record IsGenStatus (g : Gen) (k : ℕ) : Type 0 where
  pub end : RunEnd
  pub text : List ℕ
  pub is : IsGenerated g end text
  pub status_is : k ≡ end_status end
  pub unstopped : k ≢ status.stopped

-- the texts are saved where that is requested, and then run
abbrev pub gen_behavior : Gen → Behavior
gen_behavior g = record {
  stages = gen_stages g;
  written = names_of (saves_of g);
  saved_first = saves_of g;
  run = None;
  Ends = λ w finish stats. EndsGen w g finish stats;
  Begins = λ w. BeginsText w (IsGenText g);
  Unsaved = λ w. ⊥;
  Touches = λ w. Unit {0};
  IsWhole = λ w rest taken. GensWhole w g rest taken;
  IsStatusExpected = λ w rest n. IsGenStatus g n;
}

-- the result of writing the text of an end
abbrev pub IsLineOf : Change (List ℕ) → RunEnd → List ℕ → Verdict → Type 0
IsLineOf out f text (verdict.Ended f' stats) = (f' ≡ Run f) × (stats ≡ None) × HasPut out text × HasSameFaults out
IsLineOf out f text verdict.WriteFault = HasBegun out text × HasRisen out
IsLineOf out f text verdict.NoMemory = HasBegun out text
IsLineOf out f text (verdict.Refused refused) = ⊥

-- a program that a text spells, with the costs that another says and the counts that are chosen for it
pub record AreLoaded (text said : List ℕ) (processors : ℕ) (r : ResolvedTree) (loaded : Allotted) : Type 0 where
  pub comes : ComesTo text r loaded.program
  pub allotted : IsAllotted text (Some said) processors r loaded.costs loaded.choice.counts.list
  pub service_is : loaded.choice.service ≡ service r.tree loaded.costs loaded.choice.counts.list 0
  pub used_is : loaded.choice.used ≡ procs r.tree loaded.choice.counts.list 0

pub record LoadsTexts (text said : List ℕ) (processors : ℕ) (loaded : Allotted) : Type 0 where
  pub r : ResolvedTree
  pub are : AreLoaded text said processors r loaded

-- or why there is none, whatever the files are
abbrev pub AreNotLoaded : (text said : List ℕ) (processors : ℕ) → Verdict → Type 0
AreNotLoaded text said processors v = (files : Change Held) → HasSameFaults files → IsNotLoaded files (text_stages text said processors) v

-- the texts are those that are requested
pub record AreTextsOf (g : Gen) (texts : Generated) : Type 0 where
  pub program_is : texts.program ≡ program_text g.number
  pub costs_are : texts.costs ≡ costs_text
  pub stream_is : texts.stream ≡ stream_text g.number g.items

-- a verdict is expected of the running of what is requested, whatever the files are, which hold the texts that are to be saved; the
-- input is let alone
abbrev pub IsGenRun : Change (List ℕ) → Gen → Verdict → Type 0
IsGenRun out g v = (files : Change Held) (input : Change (List ℕ)) → HasSameFaults files → AreSaved files (saves_of g) → IsStill input →
    IsExpectedWith (world files input out) (gen_stages g) (EndsGen (world files input out) g) (BeginsText (world files input out) (IsGenText g)) ⊥ v

-- a verdict is expected of what is requested, which lets the input alone
pub record IsGenExpected (files : Change Held) (out : Change (List ℕ)) (g : Gen) (v : Verdict) : Type 0 where
  pub expected : (input : Change (List ℕ)) → IsStill input →
      IsExpectedWith (world files input out) (gen_stages g) (EndsGen (world files input out) g) (BeginsText (world files input out) (IsGenText g)) ⊥ v
  pub kept : KeepsFirst files (names_of (saves_of g)) (saves_of g) v

-- or a file of a text could not be written
pub record IsGenUnsaved (files : Change Held) (out : Change (List ℕ)) (g : Gen) (v : Verdict) : Type 0 where
  pub verdict_is : v ≡ verdict.WriteFault
  pub some : saves_of g ≢ []
  pub silent : IsStill out
  pub failed : HasOneFailed files (names_of (saves_of g))
  pub kept : KeepsBut files (names_of (saves_of g))
