-- Why the program may answer that memory ran out.
use Rattle.std.specs.Prelude.{◌≡◌, ◌⊎◌, Bool, true, List, ℕ, Option}
use Rattle.clap.specs.Words.{Text}
use Rattle.p3l_io.specs.Content.{Held}
use Rattle.p3l_opts.specs.declared.command.Build.{Build}
use Rattle.p3l_opts.specs.declared.command.Command.TheVariants as command
use Rattle.p3l_opts.specs.Command.{Spells}
use Rattle.p3l_program.specs.SaveState.{HasLongImage}
use Rattle.p3l_base.specs.Memory.{Refused}
use Rattle.p3l_cost.specs.Wanted.{TomlWanted}
use Rattle.p3l_opts.specs.Wanted.{ClapWanted}
use Rattle.p3l_report.specs.declared.verdict.Verdict.{Verdict}
use Rattle.p3l_report.specs.declared.verdict.Verdict.TheVariants as verdict

-- A request for memory was refused; or the reader of the words, the reader of a file of costs, or the
-- outside, if it may, said so itself.
abbrev pub IsWanting : Bool → Type 0
IsWanting outside = Refused ⊎ (ClapWanted ⊎ (TomlWanted ⊎ (outside ≡ true)))

-- A verdict says that memory ran out only for such a cause.
abbrev pub Wants : Bool → Verdict → Type 0
Wants outside (verdict.Refused refusal) = Unit {0}
Wants outside (verdict.Ended finish stats) = Unit {0}
Wants outside verdict.WriteFault = Unit {0}
Wants outside verdict.NoMemory = IsWanting outside

-- The words spell a `save` of a program whose image is too long for a snapshot.
pub record SavesLong (words : List Text) (files : Option Held) : Type 0 where
  pub build : Build
  pub picks : List ℕ
  pub output : List ℕ
  pub spelled : Spells words (command.Save build picks output)
  pub long : HasLongImage files build
