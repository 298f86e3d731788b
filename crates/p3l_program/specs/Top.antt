-- The promises of the program: its status goes with its input, its output and its files.
use Rattle.std.specs.Prelude.{◌≡◌, ◌≢◌, ◌<◌, ℕ, Bool, List, ◌⊎◌, Some, true}
use Rattle.clap.specs.Words.{Text}
use Rattle.p3l_io.specs.Change.{Change, HasRisen, HasSameContent}
use Rattle.p3l_opts.specs.declared.command.Command.{Command}
use Rattle.p3l_opts.specs.Command.{Spells}
use Rattle.p3l_run.specs.declared.end.RunStats.{RunStats}
use Rattle.p3l_report.specs.declared.verdict.Refusal.{Refusal}
use Rattle.p3l_report.specs.Status as status
use Rattle.p3l_report.specs.Verdict.{refusal_status}
use Rattle.p3l_program.specs.Answer.{Answers, BeginsWork, HasTooLong, IsDone, IsEndedWith, IsRefusedAt, IsRefusedWith, IsStopped, IsUnwritten, KeepsOthers, Reports, SpellsNone, SpellsWriter}
use Rattle.p3l_program.specs.Command.{IsStatusExpected, run_of, stages_of}
use Rattle.p3l_program.specs.Origin.{Running}
use Rattle.p3l_program.specs.Run.{Emits}
use Rattle.p3l_program.specs.Stage.{AllPass}
use Rattle.p3l_program.specs.Wants.{IsWanting, SavesLong}
use Rattle.p3l_program.specs.World.{HasNoFault, IsUntouched, WhenKnown, World}

-- no memory was left, or the status is this
abbrev pub Gives : (status wanted : ℕ) → Type 0
Gives k wanted = (k ≡ wanted) ⊎ (k ≡ status.no_memory)

-- of words, of what was there before and after, and of a status
pub record Promises (outside : Bool) (words : List Text) (w : World) (err : Change (List ℕ)) (k : ℕ) : Type 0 where
  -- The end: with this status, its cause, the text that was written, and the lines on the standard error.
  pub answers : Answers outside words w err k
  -- The text written is a prefix of the text of the command that the words spell: for `run` and `exec`
  -- that of the program's meaning on the items read, for `resume` that of the outcomes to come of the
  -- snapshot and of this meaning, and no more than the network emits under the schedule, for `fmt` the
  -- canonical text of the program, for `gen` the line of the run of the texts that its number gives.
  pub begins : IsUntouched w ⊎ BeginsWork words w
  -- With status 0 it is the whole, and `run`, `exec` and `resume` read their input to the end.
  pub done : WhenKnown w (λ held rest taken. k ≡ status.done → IsDone words w rest taken)
  -- With each status of an end the command came to an end of this status: of `run` and `exec`, the
  -- whole text of what the network emits on the items that the stream gave was written.
  pub ended : status.is_end k ≡ true → IsEndedWith words w k
  -- With each status of a refusal nothing was touched, no file changed but those that the command
  -- writes before its work, and the words are no command, or the stage that refuses so comes after
  -- others that all pass.
  pub refused : status.is_refusal k ≡ true → IsRefusedWith words w k
  -- With 13 evidence was refused so, with nothing touched, or a line of a trace differs from the run,
  -- with nothing written.
  pub evidence : k ≡ status.evidence → IsRefusedWith words w k ⊎ IsEndedWith words w k
  -- Words that are no command give 2, and what a stage refuses gives its status.
  pub usage_where : SpellsNone words → Gives k status.usage
  pub refused_where : WhenKnown w (λ held rest taken. (refused : Refusal) → IsRefusedAt words w.files refused →
      (HasRisen w.files → ⊥) → Gives k (refusal_status refused))
  -- A file that is longer than its limit gives 9, whatever its text is.
  pub long_file : WhenKnown w (λ held rest taken. HasTooLong words w.files.old.content → Gives k status.file)
  -- If all stages pass and no call fails, the input below the limit determines how `run` and `exec`
  -- end, and a command that writes a text ends with 0.
  pub completes : WhenKnown w (λ held rest taken. (command : Command) → Spells words command →
      AllPass w.files (stages_of command) → HasNoFault w → IsStatusExpected w rest command k ⊎ (k ≡ status.no_memory))
  -- The line of the numbers comes where the words request it, and they are the run's: they come with
  -- what the network emitted, and with the bound on its firings.
  pub reported : (command : Command) (run : Running) → Spells words command → run_of command ≡ Some run →
      run.reported ≡ true → status.is_end k ≡ true → (said : List ℕ) → err.old.content ≡ Some said → (HasRisen err → ⊥) →
      Reports w run said err.new.content
  -- With each status of an end the text of what the network emits was written, and where the words name
  -- a file for the trace of the run, it has the text of it: its picks are those of the schedule, and it
  -- agrees with this same run.
  pub recorded : (command : Command) (run : Running) → Spells words command → run_of command ≡ Some run →
      status.is_end k ≡ true → (numbers : RunStats) × Emits w run.origin run.schedule run.trace numbers
  -- With 1 a run made all picks of a file, and some process could still fire: under a schedule by turns
  -- or by a seed none ends so, nor does any other command.
  pub stopped : k ≡ status.stopped → IsStopped words w
  -- A fault is answered only where the count of the object rose in this call: 10 where that of the
  -- output did, or where the writing of a file failed that the command writes. A fault of reading names
  -- the file whose reading failed, which `answers` and `refused` say.
  pub read_fault : k ≡ status.read → HasRisen w.input
  pub write_fault : k ≡ status.write → HasRisen w.output ⊎ IsUnwritten words w.files
  -- No failure is dropped: of a file that is read it gives 9, and of one that is written 10.
  pub out_failed : w.output.old.faults < w.output.new.faults → Gives k status.write
  pub files_failed : w.files.old.faults < w.files.new.faults →
      (k ≡ status.file) ⊎ ((k ≡ status.no_memory) ⊎ (SpellsWriter words × (k ≡ status.write)))
  pub input_failed : w.input.old.faults < w.input.new.faults → (k ≢ status.done) × (k ≢ status.too_long) × (k ≢ status.stream)
  -- 11 comes only where a request for memory was refused, or where `clap`, `toml` or the files, if they
  -- may, said themselves that memory ran out; and of `save`, where an image is too long for a snapshot.
  pub no_memory : k ≡ status.no_memory → IsWanting outside ⊎ SavesLong words w.files.old.content
  -- No file is changed but those that the words name for writing, and by a run none before it is over.
  pub files_stay : HasSameContent w.files ⊎ KeepsOthers words w
