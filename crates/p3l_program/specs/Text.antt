-- Commands that write one text, and take nothing.
use Rattle.std.specs.Prelude.{◌≡◌, ℕ, List, [], ◌++◌, Option, Some, None}
use Rattle.p3l_io.specs.Change.{Change, HasRisen, HasSameFaults, IsStill}
use Rattle.p3l_io.specs.Content.{Held}
use Rattle.p3l_report.specs.declared.stats.Stats.{Stats}
use Rattle.p3l_report.specs.declared.verdict.Finish.{Finish}
use Rattle.p3l_report.specs.declared.verdict.Finish.TheVariants as finishes
use Rattle.p3l_report.specs.declared.verdict.Verdict.{Verdict}
use Rattle.p3l_report.specs.declared.verdict.Verdict.TheVariants as verdict
use Rattle.p3l_report.specs.Status as status
use Rattle.p3l_run.specs.Write.{HasBegun, HasPut}
use Rattle.p3l_program.specs.Behavior.{Behavior}
use Rattle.p3l_program.specs.Expected.{IsExpectedWith}
use Rattle.p3l_program.specs.Stage.{Stage}
use Rattle.p3l_program.specs.World.{World, world}

-- the text of a command that writes none
abbrev pub IsNothing : List ℕ → Type 0
IsNothing text = text ≡ []

-- such a text was written, and nothing was taken
pub record EndsText (w : World) (IsText : List ℕ → Type 0) (finish : Finish) (stats : Option Stats) : Type 0 where
  pub finish_is : finish ≡ finishes.Done
  pub stats_are : stats ≡ None
  pub text : List ℕ
  pub is : IsText text
  pub put : HasPut w.output text
  pub input : IsStill w.input

-- a prefix of such a text was written
pub record BeginsText (w : World) (IsText : List ℕ → Type 0) : Type 0 where
  pub text : List ℕ
  pub is : IsText text
  pub begun : HasBegun w.output text
  pub input : IsStill w.input

-- over an input and an output that report: the whole of such a text was written, and nothing was taken
pub record WritesWhole (w : World) (IsText : List ℕ → Type 0) (rest taken : List ℕ) : Type 0 where
  pub text : List ℕ
  pub is : IsText text
  pub rest_stays : w.input.new.content ≡ Some rest
  pub taken_is : w.output.new.content ≡ Some (taken ++ text)

-- after these stages, a text by what the files hold is written
abbrev pub text_behavior : List Stage → (Option Held → List ℕ → Type 0) → Behavior
text_behavior stages IsText = record {
  stages = stages;
  written = [];
  saved_first = [];
  run = None;
  Ends = λ w finish stats. EndsText w (IsText w.files.old.content) finish stats;
  Begins = λ w. BeginsText w (IsText w.files.old.content);
  Unsaved = λ w. ⊥;
  Touches = λ w. Unit {0};
  IsWhole = λ w rest taken. WritesWhole w (IsText w.files.old.content) rest taken;
  IsStatusExpected = λ w rest n. n ≡ status.done;
}

-- a verdict is expected of a command with these stages that writes such a text, and lets the input alone
abbrev pub IsTextExpected : Change Held → Change (List ℕ) → List Stage → (List ℕ → Type 0) → Verdict → Type 0
IsTextExpected files out stages IsText v =
    (input : Change (List ℕ)) → IsStill input →
    IsExpectedWith (world files input out) stages (EndsText (world files input out) IsText) (BeginsText (world files input out) IsText) ⊥ v

-- the result of writing a text
abbrev pub IsWritten : Change (List ℕ) → List ℕ → Verdict → Type 0
IsWritten out text (verdict.Ended finish stats) = (finish ≡ finishes.Done) × (stats ≡ None) × HasPut out text × HasSameFaults out
IsWritten out text verdict.WriteFault = HasBegun out text × HasRisen out
IsWritten out text verdict.NoMemory = HasBegun out text
IsWritten out text (verdict.Refused refused) = ⊥
