-- Answers of the program, with the text that it writes, its lines and their causes.
use Rattle.std.specs.Prelude.{◌≡◌, ◌≢◌, ℕ, Bool, List, [], ◌∷◌, ◌++◌, ◌⊎◌, Option, Some, None}
use Rattle.clap.specs.Words.{Text}
use Rattle.p3l_io.specs.Change.{Change, HasSameContent, IsStill}
use Rattle.p3l_io.specs.Content.{Held}
use Rattle.p3l_opts.specs.declared.command.Command.{Command}
use Rattle.p3l_opts.specs.Command.{Spells}
use Rattle.p3l_report.specs.declared.stats.Stats.{Stats}
use Rattle.p3l_report.specs.declared.stats.Stats.TheVariants.{Scheduled}
use Rattle.p3l_report.specs.declared.verdict.Finish.{Finish}
use Rattle.p3l_report.specs.declared.verdict.Refusal.{Refusal}
use Rattle.p3l_report.specs.declared.verdict.Refusal.TheVariants as refusal
use Rattle.p3l_report.specs.declared.verdict.Verdict.{Verdict}
use Rattle.p3l_report.specs.declared.verdict.Verdict.TheVariants as verdict
use Rattle.p3l_report.specs.Line.{stats_line}
use Rattle.p3l_report.specs.Report.{BeginsToPut, PutsText}
use Rattle.p3l_report.specs.Verdict.{finish_status, lines_of, refusal_status, reported_line, status_line, status_of}
use Rattle.p3l_program.specs.Command.{Begins, Ends, IsExpectedOf, IsWhole, Touches, run_of, saved_first, stages_of, written_of}
use Rattle.p3l_program.specs.Expected.{IsBegun, IsEnd}
use Rattle.p3l_program.specs.Run.{Emits, StopsRun}
use Rattle.p3l_program.specs.Saved.{AreSaved, HasOneFailed, KeepsBut, KeepsFirst}
use Rattle.p3l_program.specs.Stage.{IsRefusedBy, Stage, readable}
use Rattle.p3l_program.specs.File.{IsTooLong}
use Rattle.p3l_run.specs.declared.end.RunStats.{RunStats}
use Rattle.p3l_program.specs.Wants.{SavesLong, Wants}
use Rattle.p3l_program.specs.World.{IsUntouched, World}
use Rattle.p3l_program.specs.Origin.{Running}

-- the words spell no command
abbrev pub SpellsNone : List Text → Type 0
SpellsNone words = (command : Command) → Spells words command → ⊥

-- the words spell a command of which the verdict is expected
pub record IsRequested (words : List Text) (w : World) (v : Verdict) : Type 0 where
  pub command : Command
  pub spelled : Spells words command
  pub expected : IsExpectedOf w command v
  pub kept : KeepsFirst w.files (written_of command) (saved_first command) v
  pub touched : HasSameContent w.files ⊎ Touches w command

-- they spell none, and the verdict says so
pub record IsUsage (words : List Text) (w : World) (v : Verdict) : Type 0 where
  pub verdict_is : v ≡ verdict.Refused refusal.Usage
  pub none : SpellsNone words
  pub untouched : IsUntouched w
  pub files : IsStill w.files

-- memory for reading them ran out
pub record IsUnread (w : World) (v : Verdict) : Type 0 where
  pub verdict_is : v ≡ verdict.NoMemory
  pub untouched : IsUntouched w
  pub kept : HasSameContent w.files

-- they spell a command that writes files before its work, and one of them could not be written
pub record IsUnsaved (words : List Text) (w : World) (v : Verdict) : Type 0 where
  pub verdict_is : v ≡ verdict.WriteFault
  pub command : Command
  pub spelled : Spells words command
  pub some : saved_first command ≢ []
  pub untouched : IsUntouched w
  pub failed : HasOneFailed w.files (written_of command)
  pub kept : KeepsBut w.files (written_of command)

-- why a verdict is expected
abbrev pub IsExpected : List Text → World → Verdict → Type 0
IsExpected words w v = IsRequested words w v ⊎ (IsUsage words w v ⊎ (IsUnread w v ⊎ IsUnsaved words w v))

-- the answer of the program: how it ended, with this status, why, and its lines on the standard error, where its count of faults
-- doesn't rise; where it does, a prefix of each of the lines of this same verdict, so that a fault there changes no status
pub record Answers (outside : Bool) (words : List Text) (w : World) (err : Change (List ℕ)) (status : ℕ) : Type 0 where
  pub verdict : Verdict
  pub status_is : status ≡ status_of verdict
  pub expected : IsExpected words w verdict
  pub wants : Wants outside verdict ⊎ SavesLong words w.files.old.content
  pub says : PutsText err (lines_of verdict)
  pub begins_to_say : BeginsToPut err (reported_line verdict) (status_line verdict)

-- the text written is a prefix of that of the command that the words spell
pub record BeginsWork (words : List Text) (w : World) : Type 0 where
  pub command : Command
  pub spelled : Spells words command
  pub begun : IsBegun w (stages_of command) (Begins w command)

-- all that the command writes was written
pub record IsDone (words : List Text) (w : World) (rest taken : List ℕ) : Type 0 where
  pub command : Command
  pub spelled : Spells words command
  pub whole : IsWhole w rest taken command

-- a stage of the command that the words spell refuses so, after all before it passed
pub record IsRefusedAt (words : List Text) (files : Change Held) (refused : Refusal) : Type 0 where
  pub command : Command
  pub spelled : Spells words command
  pub by : IsRefusedBy files (stages_of command) refused

-- the command that the words spell wrote the files that it writes before its work, and no others
pub record HasSavedFirst (words : List Text) (files : Change Held) : Type 0 where
  pub command : Command
  pub spelled : Spells words command
  pub some : saved_first command ≢ []
  pub saved : AreSaved files (saved_first command)
  pub kept : KeepsBut files (written_of command)

-- the words spell no command, or a stage of the one that they spell refuses; nothing was touched, and no file changed, but for those
-- that the command writes before its work
pub record IsRefusedWith (words : List Text) (w : World) (status : ℕ) : Type 0 where
  pub refused : Refusal
  pub status_is : refusal_status refused ≡ status
  pub by : ((refused ≡ refusal.Usage) × SpellsNone words) ⊎ IsRefusedAt words w.files refused
  pub untouched : IsUntouched w
  pub kept : HasSameContent w.files ⊎ HasSavedFirst words w.files

-- the command that the words spell came to an end of this status
pub record IsEndedWith (words : List Text) (w : World) (status : ℕ) : Type 0 where
  pub command : Command
  pub spelled : Spells words command
  pub finish : Finish
  pub stats : Option Stats
  pub status_is : finish_status finish ≡ status
  pub end : IsEnd w (stages_of command) (Ends w command finish stats)

-- the words spell a command that writes files
pub record SpellsWriter (words : List Text) : Type 0 where
  pub command : Command
  pub spelled : Spells words command
  pub writes : written_of command ≢ []

-- the writing of a file failed, of those that the command writes that the words spell
pub record IsUnwritten (words : List Text) (files : Change Held) : Type 0 where
  pub command : Command
  pub spelled : Spells words command
  pub failed : HasOneFailed files (written_of command)

-- a command was stopped: it runs a network under the picks of a file, which are all made
abbrev pub StopsBy : World → Option Running → Type 0
StopsBy w None = ⊥
StopsBy w (Some run) = StopsRun w run.origin run.schedule

-- so was the command that the words spell
pub record IsStopped (words : List Text) (w : World) : Type 0 where
  pub command : Command
  pub spelled : Spells words command
  pub stops : StopsBy w (run_of command)

-- no file was changed but those that the command writes that the words spell, and of a run none before it was over
pub record KeepsOthers (words : List Text) (w : World) : Type 0 where
  pub command : Command
  pub spelled : Spells words command
  pub kept : KeepsBut w.files (written_of command)
  pub touched : Touches w command

-- the command that the words spell reads a file first, which is longer than its limit
pub record HasTooLong (words : List Text) (files : Option Held) : Type 0 where
  pub command : Command
  pub spelled : Spells words command
  pub limit : ℕ
  pub name : List ℕ
  pub after : List Stage
  pub reads_first : stages_of command ≡ readable limit name ∷ after
  pub longer : IsTooLong files limit name

-- the line of the numbers comes first on the standard error, and they are those of the run
pub record Reports (w : World) (run : Running) (said : List ℕ) (err : Option (List ℕ)) : Type 0 where
  pub numbers : RunStats
  pub more : List ℕ
  pub line : err ≡ Some (said ++ (stats_line (Scheduled numbers) ++ more))
  pub emits : Emits w run.origin run.schedule run.trace numbers
