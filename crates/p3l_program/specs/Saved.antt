-- Files that a command writes.
use Rattle.std.specs.Prelude.{◌≡◌, ◌≢◌, ℕ, List, [], ◌∷◌, ◌⊎◌, map, Option, Some, None, Result, Ok, Err}
use Rattle.p3l_io.specs.Change.{Change, HasFailed, HasSameContent, HasSameFaults, IsStill}
use Rattle.p3l_io.specs.Content.{Held}
use Rattle.p3l_report.specs.declared.stats.Stats.{Stats}
use Rattle.p3l_report.specs.declared.verdict.Finish.{Finish}
use Rattle.p3l_report.specs.declared.verdict.Verdict.{Verdict}
use Rattle.p3l_report.specs.declared.verdict.Verdict.TheVariants as verdict
use Rattle.p3l_report.specs.Status as status
use Rattle.p3l_program.specs.Behavior.{Behavior}
use Rattle.p3l_program.specs.Expected.{IsExpectedWith}
use Rattle.p3l_program.specs.Stage.{Stage}
use Rattle.p3l_program.specs.Text.{BeginsText, EndsText, IsNothing, WritesWhole}
use Rattle.p3l_program.specs.World.{World, world}

-- a name is none of these
abbrev pub IsOther : List ℕ → List (List ℕ) → Type 0
IsOther other [] = Unit {0}
IsOther other (name ∷ names) = (other ≢ name) × IsOther other names

-- a name is one of these
abbrev pub IsOneOf : List ℕ → List (List ℕ) → Type 0
IsOneOf name [] = ⊥
IsOneOf name (other ∷ names) = (name ≡ other) ⊎ IsOneOf name names

-- the latest call that failed was that of a file of one of these names
pub record HasOneFailed (files : Change Held) (names : List (List ℕ)) : Type 0 where
  pub name : List ℕ
  pub one : IsOneOf name names
  pub failed : HasFailed files name

-- each file but those of these names has what it had
abbrev pub HoldsBut : Held → Option Held → List (List ℕ) → Type 0
HoldsBut old None names = ⊥
HoldsBut old (Some new) names = (other : List ℕ) → IsOther other names → new other ≡ old other

abbrev pub KeepsBut : Change Held → List (List ℕ) → Type 0
KeepsBut files [] = HasSameContent files
KeepsBut files (name ∷ names) = (held : Held) → files.old.content ≡ Some held → HoldsBut held files.new.content (name ∷ names)

-- with this verdict no file is changed but those of these names, and by a refusal none
abbrev pub KeepsFiles : Change Held → List (List ℕ) → Verdict → Type 0
KeepsFiles files names (verdict.Refused refused) = HasSameContent files
KeepsFiles files names v = KeepsBut files names

-- the bytes are held under the name
abbrev pub Stands : Option Held → List ℕ → List ℕ → Type 0
Stands None name bytes = ⊥
Stands (Some held) name bytes = held name ≡ Some bytes

-- they do where the files report what they hold
abbrev pub IsSaved : Change Held → List ℕ → List ℕ → Type 0
IsSaved files name bytes = (held : Held) → files.old.content ≡ Some held → Stands files.new.content name bytes

-- the result of writing a file
abbrev pub SaveCause : Change Held → List ℕ → List ℕ → Result (Unit {0}) Verdict → Type 0
SaveCause files name bytes (Ok done) = IsSaved files name bytes × HasSameFaults files
SaveCause files name bytes (Err verdict.WriteFault) = HasFailed files name
SaveCause files name bytes (Err verdict.NoMemory) = HasSameFaults files
SaveCause files name bytes (Err v) = ⊥

-- and changes no other file
pub record HasSave (files : Change Held) (name bytes : List ℕ) (result : Result (Unit {0}) Verdict) : Type 0 where
  pub kept : KeepsBut files (name ∷ [])
  pub by : SaveCause files name bytes result

-- the bytes are held under their names, of files that are each a name and its bytes
abbrev pub AreSaved : Change Held → List (List ℕ × List ℕ) → Type 0
AreSaved files [] = Unit {0}
AreSaved files (save ∷ saves) = IsSaved files save.0 save.1 × AreSaved files saves

abbrev pub names_of : List (List ℕ × List ℕ) → List (List ℕ)
names_of saves = map (λ save. save.0) saves

-- the result of writing several files
abbrev pub SavesCause : Change Held → List (List ℕ × List ℕ) → Result (Unit {0}) Verdict → Type 0
SavesCause files saves (Ok done) = AreSaved files saves × HasSameFaults files
SavesCause files saves (Err verdict.WriteFault) = (saves ≢ []) × HasOneFailed files (names_of saves)
SavesCause files saves (Err verdict.NoMemory) = HasSameFaults files
SavesCause files saves (Err v) = ⊥

-- and changes no other file
pub record HasSaves (files : Change Held) (saves : List (List ℕ × List ℕ)) (result : Result (Unit {0}) Verdict) : Type 0 where
  pub kept : KeepsBut files (names_of saves)
  pub by : SavesCause files saves result

-- with this verdict files that a command wrote before its work have what was written, but where memory ran out
abbrev pub HoldFirst : Change Held → List (List ℕ × List ℕ) → Verdict → Type 0
HoldFirst files saves verdict.NoMemory = Unit {0}
HoldFirst files saves v = AreSaved files saves

-- with this verdict no file is changed but those of these names; and by a refusal none, or those alone that the command wrote before
-- its work
abbrev pub KeepsFirst : Change Held → List (List ℕ) → List (List ℕ × List ℕ) → Verdict → Type 0
KeepsFirst files names [] v = KeepsFiles files names v
KeepsFirst files names (save ∷ saves) v = KeepsBut files names × HoldFirst files (save ∷ saves) v

-- such a file and such a text were written, and nothing was taken
pub record EndsSaving (w : World) (IsText : List ℕ → Type 0) (name : List ℕ) (IsBytes : List ℕ → Type 0) (finish : Finish) (stats : Option Stats) : Type 0 where
  pub ends : EndsText w IsText finish stats
  pub bytes : List ℕ
  pub is : IsBytes bytes
  pub saved : IsSaved w.files name bytes

-- over files, an input and an output that report: they were, whole
pub record SavesWhole (w : World) (IsText : List ℕ → Type 0) (name : List ℕ) (IsBytes : List ℕ → Type 0) (rest taken : List ℕ) : Type 0 where
  pub text : WritesWhole w IsText rest taken
  pub bytes : List ℕ
  pub is : IsBytes bytes
  pub saved : IsSaved w.files name bytes

-- after these stages, a file of this name is written, and then a text, each by what the files hold
abbrev pub saving_behavior : List Stage → (Option Held → List ℕ → Type 0) → List ℕ → (Option Held → List ℕ → Type 0) → Behavior
saving_behavior stages IsText name IsBytes = record {
  stages = stages;
  written = name ∷ [];
  saved_first = [];
  run = None;
  Ends = λ w finish stats. EndsSaving w (IsText w.files.old.content) name (IsBytes w.files.old.content) finish stats;
  Begins = λ w. BeginsText w (IsText w.files.old.content);
  Unsaved = λ w. IsStill w.output × HasFailed w.files name;
  Touches = λ w. Unit {0};
  IsWhole = λ w rest taken. SavesWhole w (IsText w.files.old.content) name (IsBytes w.files.old.content) rest taken;
  IsStatusExpected = λ w rest n. n ≡ status.done;
}

-- a verdict is expected of a command with these stages that writes such a file and then such a text, and
-- lets the input alone
abbrev pub IsSavingExpected : Change Held → Change (List ℕ) → List Stage → (List ℕ → Type 0) → List ℕ → (List ℕ → Type 0) → Verdict → Type 0
IsSavingExpected files out stages IsText name IsBytes v =
    (input : Change (List ℕ)) → IsStill input →
    IsExpectedWith (world files input out) stages (EndsSaving (world files input out) IsText name IsBytes) (BeginsText (world files input out) IsText) (IsStill out × HasFailed files name) v

-- a verdict is expected of a command with these stages that writes such a file alone, and lets the input
-- and the output alone
abbrev pub IsFileExpected : Change Held → List Stage → List ℕ → (List ℕ → Type 0) → Verdict → Type 0
IsFileExpected files stages name IsBytes v = (out : Change (List ℕ)) → IsStill out → IsSavingExpected files out stages IsNothing name IsBytes v
